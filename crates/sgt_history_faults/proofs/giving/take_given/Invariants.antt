use Rattle.sgt_history_faults.specs.Given.{TakesGiven}
use Rattle.sgt_history_faults.proofs.giving.take_given.Given as goal

abbrev pub invariant-loop-place : goal.invariant-loop-place
invariant-loop-place l = record {
  taken : TakesGiven l.line l.operations l.place l.fn.given.items l.given.items;
}
