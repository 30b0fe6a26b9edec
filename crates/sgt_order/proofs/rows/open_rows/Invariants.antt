use Rattle.sgt_order.specs.private.Rows.{RowsCover}
use Rattle.sgt_order.proofs.rows.open_rows.Given as goal

abbrev pub invariant-loop-edge : goal.invariant-loop-edge
invariant-loop-edge l = RowsCover l.rows.items l.edges
