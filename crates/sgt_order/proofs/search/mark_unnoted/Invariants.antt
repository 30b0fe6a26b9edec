use Rattle.sgt_order.specs.private.Search.{AreMet, IsFrom, MarkedSome}
use Rattle.sgt_order.proofs.search.mark_unnoted.Given as goal

abbrev pub invariant-loop-at : goal.invariant-loop-at
invariant-loop-at l = record {
  marked : MarkedSome (IsFrom l.from l.dag.edges.items) l.initial.marks l.marks;
  met : AreMet l.met l.marks;
}
