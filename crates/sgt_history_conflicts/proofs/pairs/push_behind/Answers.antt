use Rattle.std.proofs.Common.{◌≡◌, ◌<◌, ◌+◌, ℕ, Some, subst, sym, ◌∙◌, inl, inr, arith, refl, get_or, false}
use Rattle.std.specs.Prelude.{slice_get}
use Rattle.std.proofs.lemmas.Option.{slice_get-get_or, same_Some}
use Rattle.sgt_history.specs.declared.history.Kind.TheVariants.{Read}
use Rattle.sgt_history_faults.specs.declared.touch.Touch.{Touch}
use Rattle.sgt_history_conflicts.specs.Pairs.{IsLast}
use Rattle.sgt_history_conflicts.proofs.Adding.{added-one, only-last, pair-behind}
use Rattle.sgt_history_conflicts.proofs.pairs.push_behind.Goals as goal

pub returns : goal.returns
returns c = λ before added.
    let touches = c.args.touches.now in
    let last = subst (IsLast c.args.touches.now c.args.at) c.in-Some.is c.requires.last in
    let d : Touch = record {
      version = 0;
      item = 0;
      line = 0;
      place = 0;
      kind = Read;
      commits = false;
      surpassed =
          false;
    } in
    let one = slice_get-get_or c.args.touches.now c.in-Some.from d (omega (arith, last.0, c.requires.at)) in
    let two = slice_get-get_or c.args.touches.now c.args.at d c.requires.at in
    let pair = pair-behind c.args.touches.now c.args.kind c.in-Some.from c.args.at _ _ last one two
    (c.meets.ensures.0 c.if-not-meets.false) in
    rw c.in_ok-push.ensures.items (added-one c.args.touches.now c.args.kind (λ i k. k < c.args.at)
    (λ i k. k < c.args.at + 1) before
    c.args.pairs.now.items (record { from = c.in-Some.from; to = c.args.at }) pair
    (λ i k lt is. elim (only-last c.args.touches.now c.args.kind c.args.at c.args.last c.requires.written
    c.requires.last i k lt is) [
      | inl less ↦ inl less
      | inr (same, at) ↦ inr (same_Some i c.in-Some.from (sym same ∙ c.in-Some.is), at)
    ]) added)
