use Rattle.std.proofs.Common.{◌≡◌, ◌+◌, ◌-◌, ℕ, List, length, take, drop, map, sym, subst, arith, length-drop}
use Rattle.std.proofs.lemmas.Bool.{false≢true}
use Rattle.std.proofs.lemmas.List.{take_all}
use Rattle.sgt_history_picture.specs.Told.{AreTold, IsCircle, step_of}
use Rattle.sgt_history_picture.proofs.Cycles.{no-name, no-round, told-behind}
use Rattle.sgt_history_picture.proofs.cycle.cycle_in.Goals as goal
use Rattle.sgt_history_picture.proofs.cycle.cycle_in.Goals.{in_default-2-via-in-Some-2+else-is_circle, in_default-2-via-in_default-2}

pub returns-in_default-find_lf-clause-none : goal.returns-in_default-find_lf-clause-none
returns-in_default-find_lf-clause-none c =
    λ name steps is. no-name c.args.answer.now c.in-Some.told.now name steps c.in-Some.ensures
    c.in_default-find_lf.ensures.none is

pub returns-clause-none : goal.returns-clause-none
returns-clause-none c = λ name steps is.
    let told = c.in-Some.told.now in
    let n = c.in-Some-find_lf.end in
    let cut = c.in-Some-find_lf.ensures.some in
    let range : take (length told - (n + 1)) (drop (n + 1) told) ≡ drop (n + 1) told =
    take_all (length told - (n + 1)) (drop (n + 1) told) (omega (arith, length-drop (n + 1) told)) in
    let h = told-behind c.args.answer.now told name (take n told) (drop (n + 1) told) steps c.in-Some.ensures cut.1
    cut.2 is in
    let there = subst (λ (t : List ℕ). AreTold t steps) (sym range) h.0 in
    elim c.in_default-2.branch [
      | in_default-2-via-in-Some-2+else-is_circle w ↦
          no-round _ (map step_of w.in-Some-2.steps.items) steps (rw w.in-Some-2.is at c.in_ok-steps.ensures.some)
          (λ round. false≢true
          (w.if-is_circle.ensures.1
          (subst (λ ss. IsCircle (map step_of ss)) (sym w.as_slice.ensures.value) round))) there h.1
      | in_default-2-via-in_default-2 w ↦ (rw w.in_default-2.is at c.in_ok-steps.ensures.none) steps there
    ]
