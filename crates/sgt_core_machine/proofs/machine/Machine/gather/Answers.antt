use Rattle.std.proofs.Common.{◌≡◌, length, refl, ◌∙◌, arith, ap}
use Rattle.std.specs.Prelude.{slice_get}
use Rattle.std.proofs.lemmas.Option.{slice_get_within}
use Rattle.sgt_names.proofs.Lists.{within_at}
use Rattle.sgt_notation.specs.declared.event.Event.TheVariants.{Gather}
use Rattle.sgt_core_machine.specs.Machine.{parts_of}
use Rattle.sgt_core_machine.proofs.Finding.{not_true}
use Rattle.sgt_core_machine.proofs.Refusing.{refused_goes, step_open, gather_no_site, gather_done, gather_no_touch, may_gather, idle_part}
use Rattle.sgt_core_machine.proofs.machine.Machine.gather.Goals as goal

pub returns-in-Err : goal.returns-in-Err
returns-in-Err c = λ d s. let event = Gather c.args.tx c.args.site in
    refused_goes (parts_of c.args.self.now) d s event c.in-Err.fault _ c.refused.ensures
    (c.in-Err.ensures.err d s event refl)

pub returns-then-other_step : goal.returns-then-other_step
returns-then-other_step c = λ d s.
    step_open (parts_of c.args.self.now) d s c.args.tx _ c.in-Ok.ensures.ok (Gather c.args.tx c.args.site) refl
    ((c.other_step.ensures d s).0 c.if-other_step.true) _ c.refused-then-other_step.ensures

pub returns-then-at-len : goal.returns-then-at-len
returns-then-at-len c = λ d s.
    gather_no_site (parts_of c.args.self.now) d s c.args.tx _ c.in-Ok.ensures.ok
    (λ other. not_true _ c.if-other_step.false ((c.other_step.ensures d s).1 other)) c.args.site _
    (omega arith) c.refused-then-at-len.ensures

pub returns-then-is_gathered : goal.returns-then-is_gathered
returns-then-is_gathered c = λ d s.
    let same : c.number-at.result ≡ c.args.site = omega arith in
    let p = within_at c.args.self.now.places.items c.args.site (omega arith) in
    let at = ap (λ ps. slice_get ps c.number-at.result) c.as_slice.ensures.value
    ∙ (ap (slice_get c.args.self.now.places.items) same ∙ p.1) in
    gather_done (parts_of c.args.self.now) d s c.args.tx _ c.in-Ok.ensures.ok
    (λ other. not_true _ c.if-other_step.false ((c.other_step.ensures d s).1 other)) c.args.site p.0 _ p.1
    ((c.is_gathered.ensures p.0 at).0 c.if-is_gathered.true) c.refused-then-is_gathered.ensures

pub touches-requires : goal.touches-requires
touches-requires c =
    let lt = slice_get_within c.args.self.now.running.items c.in-Ok.slot _ c.in-Ok.ensures.ok.1.1 in
    omega (arith, lt, ap length c.as_slice-2.ensures.value)

pub returns-then-not-touches : goal.returns-then-not-touches
returns-then-not-touches c = λ d s.
    let same : c.number-at.result ≡ c.args.site = omega arith in
    let p = within_at c.args.self.now.places.items c.args.site (omega arith) in
    let at = ap (λ ps. slice_get ps c.number-at.result) c.as_slice.ensures.value
    ∙ (ap (slice_get c.args.self.now.places.items) same ∙ p.1) in
    let fresh = idle_part p.0.part (λ out. not_true _ c.if-is_gathered.false ((c.is_gathered.ensures p.0 at).1 out)) in
    let runs = ap (λ t. slice_get t c.in-Ok.slot) c.as_slice-2.ensures.value ∙ c.in-Ok.ensures.ok.1.1 in
    gather_no_touch (parts_of c.args.self.now) d s c.args.tx _ c.in-Ok.ensures.ok
    (λ other. not_true _ c.if-other_step.false ((c.other_step.ensures d s).1 other)) c.args.site p.0 _ p.1 fresh
    (λ any. not_true _ c.if-not-touches.true ((c.touches.ensures _ runs).1 any)) c.refused-then-not-touches.ensures

pub gather_allowed-requires-clause-allowed : goal.gather_allowed-requires-clause-allowed
gather_allowed-requires-clause-allowed c = λ d s.
    let same : c.number-at.result ≡ c.args.site = omega arith in
    let p = within_at c.args.self.now.places.items c.args.site (omega arith) in
    let at = ap (λ ps. slice_get ps c.number-at.result) c.as_slice.ensures.value
    ∙ (ap (slice_get c.args.self.now.places.items) same ∙ p.1) in
    let fresh = idle_part p.0.part (λ out. not_true _ c.if-is_gathered.false ((c.is_gathered.ensures p.0 at).1 out)) in
    let runs = ap (λ t. slice_get t c.in-Ok.slot) c.as_slice-2.ensures.value ∙ c.in-Ok.ensures.ok.1.1 in
    may_gather (parts_of c.args.self.now) d s c.args.tx _ c.in-Ok.ensures.ok
    (λ other. not_true _ c.if-other_step.false ((c.other_step.ensures d s).1 other)) c.args.site p.0 p.1 fresh
    ((c.touches.ensures _ runs).0 c.if-not-touches.false)
