use Rattle.std.proofs.Common.{List, ◌++◌, take}
use Rattle.std.specs.Prelude.{filter}
use Rattle.sgt_edges.specs.declared.edge.Edge.{Edge}
use Rattle.sgt_order.specs.SerializationGraph.{is_present}
use Rattle.sgt_order.specs.private.Rows.{RowsCover}
use Rattle.sgt_order.proofs.rows.add_edges.Given as goal

abbrev pub invariant-loop-edge : goal.invariant-loop-edge
invariant-loop-edge l = (over : List Edge) → RowsCover l.initial.rows over
    → RowsCover l.rows (over ++ filter (is_present l.generation) (take l.edge-index l.offered))
