use Rattle.std.proofs.Common.{◌≡◌, refl, sym, ◌∙◌, arith, ap}
use Rattle.std.specs.Prelude.{slice_get}
use Rattle.sgt_names.proofs.Lists.{within_at}
use Rattle.sgt_notation.specs.declared.event.Event.TheVariants.{Install}
use Rattle.sgt_core_machine.specs.Machine.{parts_of}
use Rattle.sgt_core_machine.proofs.Finding.{not_true}
use Rattle.sgt_core_machine.proofs.Refusing.{refused_goes, step_open, install_no_site}
use Rattle.sgt_core_machine.proofs.Installs.{install_early, untouched_goes, again_goes, allowed}
use Rattle.sgt_core_machine.proofs.machine.Machine.install.Goals as goal

pub returns-in-Err : goal.returns-in-Err
returns-in-Err c = λ d s. let event = Install c.args.tx c.args.site in
    refused_goes (parts_of c.args.self.now) d s event c.in-Err.fault _ c.refused.ensures
    (c.in-Err.ensures.err d s event refl)

pub returns-then-other_step : goal.returns-then-other_step
returns-then-other_step c = λ d s.
    step_open (parts_of c.args.self.now) d s c.args.tx _ c.in-Ok.ensures.ok (Install c.args.tx c.args.site) refl
    ((c.other_step.ensures d s).0 c.if-other_step.true) _ c.refused-then-other_step.ensures

pub returns-then-at-len : goal.returns-then-at-len
returns-then-at-len c = λ d s.
    install_no_site (parts_of c.args.self.now) d s c.args.tx _ c.in-Ok.ensures.ok
    (λ other. not_true _ c.if-other_step.false ((c.other_step.ensures d s).1 other)) c.args.site _
    (omega arith) c.refused-then-at-len.ensures

pub returns-in-None : goal.returns-in-None
returns-in-None c = λ d s.
    let p = within_at c.args.self.now.places.items c.args.site (omega arith) in
    install_early (parts_of c.args.self.now) d s c.args.tx _ c.in-Ok.ensures.ok
    (λ other. not_true _ c.if-other_step.false ((c.other_step.ensures d s).1 other)) c.args.site p.0 p.1 _
    (sym c.verdict.ensures ∙ c.in-None.is) c.refused-in-None.ensures

pub returns-in-Idle : goal.returns-in-Idle
returns-in-Idle c = λ d s.
    let same : c.number-at.result ≡ c.args.site = omega arith in
    let p = within_at c.args.self.now.places.items c.args.site (omega arith) in
    let at = ap (λ ps. slice_get ps c.number-at.result) c.as_slice.ensures.value
    ∙ (ap (slice_get c.args.self.now.places.items) same ∙ p.1) in
    untouched_goes (parts_of c.args.self.now) d s c.args.tx _ c.in-Ok.ensures.ok
    (λ other. not_true _ c.if-other_step.false ((c.other_step.ensures d s).1 other)) c.args.site p.0 p.1
    c.in-Some.verdict (sym c.in-Some.is ∙ c.verdict.ensures) _ (sym (c.part_at.ensures p.0 at)
    ∙ c.in-Idle.is) c.refused-in-Idle.ensures

pub returns-in-Written : goal.returns-in-Written
returns-in-Written c = λ d s.
    let same : c.number-at.result ≡ c.args.site = omega arith in
    let p = within_at c.args.self.now.places.items c.args.site (omega arith) in
    let at = ap (λ ps. slice_get ps c.number-at.result) c.as_slice.ensures.value
    ∙ (ap (slice_get c.args.self.now.places.items) same ∙ p.1) in
    again_goes (parts_of c.args.self.now) d s c.args.tx _ c.in-Ok.ensures.ok
    (λ other. not_true _ c.if-other_step.false ((c.other_step.ensures d s).1 other)) c.args.site p.0 p.1
    c.in-Some.verdict (sym c.in-Some.is ∙ c.verdict.ensures) _ (sym (c.part_at.ensures p.0 at)
    ∙ c.in-Written.is) c.refused-in-Written.ensures

pub install_due-requires-clause-allowed : goal.install_due-requires-clause-allowed
install_due-requires-clause-allowed c = λ d s.
    let same : c.number-at.result ≡ c.args.site = omega arith in
    let p = within_at c.args.self.now.places.items c.args.site (omega arith) in
    let at = ap (λ ps. slice_get ps c.number-at.result) c.as_slice.ensures.value
    ∙ (ap (slice_get c.args.self.now.places.items) same ∙ p.1) in
    allowed (parts_of c.args.self.now) d s c.args.tx _ c.in-Ok.ensures.ok
    (λ other. not_true _ c.if-other_step.false ((c.other_step.ensures d s).1 other)) c.args.site p.0 p.1
    c.in-Some.verdict (sym c.in-Some.is ∙ c.verdict.ensures) (sym (c.part_at.ensures p.0 at) ∙ c.in-Due.is)
