use Rattle.sgt_order.specs.private.Search.{AreMet, IsFrom, MarkedSome}
use Rattle.sgt_order.proofs.search.mark_word.Given as goal

abbrev pub invariant-loop-bit : goal.invariant-loop-bit
invariant-loop-bit l = record {
  marked : MarkedSome (IsFrom l.from l.dag.edges.items) l.initial.marks l.marks;
  met : AreMet l.met l.marks;
}
