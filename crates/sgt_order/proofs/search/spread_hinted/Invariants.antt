use Rattle.sgt_order.specs.private.Search.{AreMet, IsFrom, MarkedSome}
use Rattle.sgt_order.proofs.search.spread_hinted.Given as goal

abbrev pub invariant-loop-word : goal.invariant-loop-word
invariant-loop-word l = record {
  marked : MarkedSome (IsFrom l.from l.dag.edges.items) l.initial.marks l.marks;
  met : AreMet l.met l.marks;
}
