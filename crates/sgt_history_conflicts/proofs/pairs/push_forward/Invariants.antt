use Rattle.sgt_history_conflicts.specs.Pairs.{AddsUpTo, IsLast}
use Rattle.sgt_history_conflicts.proofs.pairs.push_forward.Given as goal

abbrev pub invariant-loop-at : goal.invariant-loop-at
invariant-loop-at l = record {
  last : IsLast l.touches l.at l.last;
  added : AddsUpTo l.touches l.kind l.at l.fn.pairs.items l.pairs.items;
}
