use Rattle.std.proofs.Common.{◌≡◌, ◌≤◌, length, arith}
use Rattle.std.proofs.lemmas.Option.{slice_get_within}
use Rattle.sgt_history.specs.declared.named.Conflict.TheVariants.{ReadWrite}
use Rattle.sgt_history_conflicts.proofs.Adding.{nothing_added}
use Rattle.sgt_history_conflicts.proofs.pairs.push_backward.Goals as goal

pub loop-at-init : goal.loop-at-init
loop-at-init c = record {
  within = omega arith;
  first = λ m e le at w. absurd (omega (arith, slice_get_within c.args.touches.now m e at, le));
  added = nothing_added c.args.touches.now ReadWrite (λ i k. length c.args.touches.now ≤ i) c.args.pairs.now.items
      (λ i k le pair. absurd (omega (arith, le, slice_get_within c.args.touches.now i pair.a pair.first)));
}
