use Rattle.std.proofs.Common.{take}
use Rattle.sgt_edges.specs.declared.edge.Edge.{Edge}
use Rattle.sgt_order.specs.private.Rows.{HasBit, IsOpenRow}
use Rattle.sgt_order.specs.private.Search.{IsListed}
use Rattle.sgt_order.proofs.rows.add_listed.Given as goal

abbrev pub invariant-loop-number : goal.invariant-loop-number
invariant-loop-number l = IsOpenRow l.row → (e : Edge) → IsListed l.edges (take l.number-index l.listed) e
    → HasBit l.row.words.items e.to.index
