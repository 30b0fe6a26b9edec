use Rattle.std.proofs.Common.{List}
use Rattle.sgt_edges.specs.declared.edge.Edge.{Edge}
use Rattle.sgt_order.specs.private.Rows.{RowsCover}
use Rattle.sgt_order.proofs.rows.put_row.Given as goal

abbrev pub invariant-loop-empty : goal.invariant-loop-empty
invariant-loop-empty l = (over : List Edge) → RowsCover l.initial.rows.items over → RowsCover l.rows.items over
