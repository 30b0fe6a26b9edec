use Rattle.std.proofs.Common.{◌+◌}
use Rattle.sgt_order.specs.private.Search.{AreMet}
use Rattle.sgt_order.proofs.Spreading.{Spreading}
use Rattle.sgt_order.proofs.search.spread_over.Given as goal

abbrev pub invariant-loop-handle : goal.invariant-loop-handle
invariant-loop-handle l = record {
  spreading : Spreading l.dag.order.items l.dag.edges.items (l.first + l.handle-index) l.initial.marks l.marks;
  met : AreMet l.met l.marks;
}
