use Rattle.std.proofs.Common.{◌≤◌, ◌+◌, ◌==◌, [], ℕ, List, length, drop, map, refl, sym, ap, ◌∙◌, subst, arith, length-drop}
use Rattle.std.proofs.lemmas.Bool.{false≢true}
use Rattle.std.proofs.lemmas.List.{map_push, take_all}
use Rattle.sgt_history_picture.specs.Told.{step_of}
use Rattle.sgt_history_picture.proofs.Cycles.{front-cut, front-more, front-no, front-same, front-whole, is-nothing}
use Rattle.sgt_history_picture.proofs.cycle.steps_in.Goals as goal

pub returns-in-None-clause-none : goal.returns-in-None-clause-none
returns-in-None-clause-none c =
    let cut = c.in-Some.ensures.some in
    front-no _ c.loop-end.rest.now _ _ _ c.loop-end.invariant.0 cut.1 cut.2 c.in-None.ensures.none

pub loop-end-preserved : goal.loop-end-preserved
loop-end-preserved c =
    let cut = c.in-Some.ensures.some in
    let rest = c.loop-end.rest.now in
    let n = c.in-Some.end in
    let told = c.in-Some-told_in.ensures.some in
    let steps = c.loop-end.steps.items in
    let behind = drop (n + 1) rest in (
      front-same _ behind _ _ _ (sym (take_all _ behind (omega (arith, length-drop (n + 1) rest))))
          (sym (map_push step_of steps c.in-Some-told_in.told)
          ∙ ap (map step_of) (sym c.in_ok-push-in-Some-told_in.ensures.items))
          (front-more _ rest _ behind _ (step_of c.in-Some-told_in.told) c.loop-end.invariant.0 told.0 told.1 cut.1
          cut.2),
      subst (λ (t : List ℕ). length t ≤ length c.args.text.now)
          (sym (take_all _ behind (omega (arith, length-drop (n + 1) rest)))) (omega (arith, length-drop (n + 1) rest)),
    )

pub returns-then-is_empty-clause-some : goal.returns-then-is_empty-clause-some
returns-then-is_empty-clause-some c =
    front-whole _ _ (front-same _ c.loop-end.rest.now [] _ _ (is-nothing c.loop-end.rest.now c.if-is_empty.ensures)
    refl c.loop-end.invariant.0)

pub returns-clause-none : goal.returns-clause-none
returns-clause-none c = front-cut _ c.loop-end.rest.now _ c.loop-end.invariant.0 c.in_default.ensures.none
    (λ none. false≢true (c.if-is_empty.ensures ∙ ap (λ (t : List ℕ). length t == 0) none))
