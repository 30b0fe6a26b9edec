use Rattle.std.proofs.Common.{length, refl, sym, ◌∙◌, arith, subst, ap}
use Rattle.std.specs.Prelude.{slice_get, Any}
use Rattle.std.proofs.lemmas.Option.{slice_get_within}
use Rattle.sgt_notation.specs.declared.event.Event.TheVariants.{Decide}
use Rattle.sgt_core_model.specs.Step.{IsOtherOpen}
use Rattle.sgt_core_machine.specs.Machine.{parts_of}
use Rattle.sgt_core_machine.specs.Gathered.{IsMissedAt}
use Rattle.sgt_core_machine.proofs.Finding.{not_true}
use Rattle.sgt_core_machine.proofs.Refusing.{refused_goes, step_open, decide_too_early, decide_again, may_decide}
use Rattle.sgt_core_machine.proofs.Stepping.{step_own}
use Rattle.sgt_core_machine.proofs.Ruled.{ruled_step, not_ruled}
use Rattle.sgt_core_machine.proofs.machine.Machine.decide.Goals as goal

pub returns-in-Err : goal.returns-in-Err
returns-in-Err c = λ d s. let event = Decide c.args.tx in
    refused_goes (parts_of c.args.self.now) d s event c.in-Err.fault _ c.refused.ensures
    (c.in-Err.ensures.err d s event refl)

pub returns-then-other_step : goal.returns-then-other_step
returns-then-other_step c = λ d s.
    step_open (parts_of c.args.self.now) d s c.args.tx _ c.in-Ok.ensures.ok (Decide c.args.tx) refl
    ((c.other_step.ensures d s).0 c.if-other_step.true) _ c.refused-then-other_step.ensures

pub misses-requires : goal.misses-requires
misses-requires c =
    let lt = slice_get_within c.args.self.now.running.items c.in-Ok.slot _ c.in-Ok.ensures.ok.1.1 in
    omega (arith, lt, ap length c.as_slice-2.ensures.value)

pub returns-then-misses : goal.returns-then-misses
returns-then-misses c = λ d s.
    let runs = ap (λ t. slice_get t c.in-Ok.slot) c.as_slice-2.ensures.value ∙ c.in-Ok.ensures.ok.1.1 in
    let some = (c.misses.ensures _ runs).0 c.if-misses.true in
    decide_too_early (parts_of c.args.self.now) d s c.args.tx _ c.in-Ok.ensures.ok
    (λ other. not_true _ c.if-other_step.false ((c.other_step.ensures d s).1 other)) _
    (subst (λ ps. Any (IsMissedAt ps) c.in-Ok.ensures.ok.1.0.draft.touched) c.as_slice.ensures.value some)
    c.refused-then-misses.ensures

pub returns-then-is_ruled : goal.returns-then-is_ruled
returns-then-is_ruled c = λ d s.
    let runs = ap (λ t. slice_get t c.in-Ok.slot) c.as_slice-2.ensures.value ∙ c.in-Ok.ensures.ok.1.1 in
    let m = parts_of c.args.self.now in
    let no_other : IsOtherOpen d c.args.tx
    → ⊥ = λ other. not_true _ c.if-other_step.false ((c.other_step.ensures d s).1 other) in
    let r = ruled_step m d m.step s.step (c.is_ruled.ensures.0 c.if-is_ruled.true) in
    let own = step_own m d c.args.tx no_other m.step s.step r.0 r.1 in
    decide_again m d s c.args.tx _ c.in-Ok.ensures.ok no_other
    (λ some. not_true _ c.if-misses.false ((c.misses.ensures _ runs).1
    (subst (λ ps. Any (IsMissedAt ps) c.in-Ok.ensures.ok.1.0.draft.touched) (sym c.as_slice.ensures.value) some)))
    (r.2 ∙ ap Rattle.std.proofs.Common.Some own) _ c.refused-then-is_ruled.ensures

pub decide_gathered-requires-clause-allowed : goal.decide_gathered-requires-clause-allowed
decide_gathered-requires-clause-allowed c = λ d s.
    let runs = ap (λ t. slice_get t c.in-Ok.slot) c.as_slice-2.ensures.value ∙ c.in-Ok.ensures.ok.1.1 in
    let m = parts_of c.args.self.now in
    let no_other : IsOtherOpen d c.args.tx
    → ⊥ = λ other. not_true _ c.if-other_step.false ((c.other_step.ensures d s).1 other) in
    let none = not_ruled m d m.step s.step (λ r. not_true _ c.if-is_ruled.false (c.is_ruled.ensures.1 r)) in
    may_decide m d s c.args.tx _ c.in-Ok.ensures.ok no_other
    (λ some. not_true _ c.if-misses.false ((c.misses.ensures _ runs).1
    (subst (λ ps. Any (IsMissedAt ps) c.in-Ok.ensures.ok.1.0.draft.touched) (sym c.as_slice.ensures.value) some)))
    (λ done. let f = sym done ∙ none in cc)
