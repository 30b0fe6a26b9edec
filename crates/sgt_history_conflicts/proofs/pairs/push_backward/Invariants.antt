use Rattle.std.proofs.Common.{◌≤◌, length}
use Rattle.sgt_history.specs.declared.named.Conflict.TheVariants.{ReadWrite}
use Rattle.sgt_history_conflicts.specs.Pairs.{AddsFrom, IsFirst}
use Rattle.sgt_history_conflicts.proofs.pairs.push_backward.Given as goal

abbrev pub invariant-loop-at : goal.invariant-loop-at
invariant-loop-at l = record {
  within : l.at ≤ length l.touches;
  first : IsFirst l.touches l.at l.first;
  added : AddsFrom l.touches ReadWrite l.at l.fn.pairs.items l.pairs.items;
}

abbrev pub decreases-loop-at : goal.decreases-loop-at
decreases-loop-at l = l.at
