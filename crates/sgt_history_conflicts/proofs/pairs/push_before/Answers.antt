use Rattle.std.proofs.Common.{◌≡◌, ◌<◌, ◌≤◌, ◌+◌, ℕ, Some, subst, sym, ◌∙◌, inl, inr, arith, refl, get_or, false}
use Rattle.std.specs.Prelude.{slice_get}
use Rattle.std.proofs.lemmas.Option.{slice_get-get_or, slice_get_within, same_Some}
use Rattle.sgt_history.specs.declared.history.Kind.TheVariants.{Read}
use Rattle.sgt_history.specs.declared.named.Conflict.TheVariants.{ReadWrite}
use Rattle.sgt_history_faults.specs.declared.touch.Touch.{Touch}
use Rattle.sgt_history_conflicts.specs.Pairs.{IsFirst}
use Rattle.sgt_history_conflicts.proofs.Adding.{added-one, only-first, pair-before}
use Rattle.sgt_history_conflicts.proofs.pairs.push_before.Goals as goal

pub returns : goal.returns
returns c = λ before added.
    let first = subst (IsFirst c.args.touches.now (c.args.at + 1)) c.in-Some.is c.requires.first in
    let d : Touch = record {
      version = 0;
      item = 0;
      line = 0;
      place = 0;
      kind = Read;
      commits = false;
      surpassed =
          false;
    } in
    let one = slice_get-get_or c.args.touches.now c.args.at d c.requires.at in
    let two =
    slice_get-get_or c.args.touches.now c.in-Some.to d
    (slice_get_within c.args.touches.now c.in-Some.to first.1 first.2) in
    let pair =
    pair-before c.args.touches.now c.args.at c.in-Some.to _ _ first one two
    (c.meets.ensures.0 c.if-not-meets.false) in
    rw c.in_ok-push.ensures.items (added-one c.args.touches.now ReadWrite (λ i k. c.args.at + 1 ≤ i)
    (λ i k. c.args.at ≤ i) before
    c.args.pairs.now.items (record { from = c.args.at; to = c.in-Some.to }) pair
    (λ i k le is. elim (only-first c.args.touches.now c.args.at c.args.first c.requires.first i k le is) [
      | inl more ↦ inl more
      | inr (at, same) ↦ inr (at, same_Some k c.in-Some.to (sym same ∙ c.in-Some.is))
    ]) added)
