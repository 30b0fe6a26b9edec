use Rattle.std.proofs.Common.{◌≡◌, ◌⊎◌, ℕ}
use Rattle.sgt_edges.specs.declared.edge.Edge.{Edge}
use Rattle.sgt_order.specs.private.Rows.{HasBit}
use Rattle.sgt_order.specs.private.Search.{IsListed}
use Rattle.sgt_order.proofs.search.note_listed.Given as goal

abbrev pub invariant-loop-number : goal.invariant-loop-number
invariant-loop-number l = (i : ℕ) → HasBit l.met i
    → HasBit l.initial.met i ⊎ ((e : Edge) × IsListed l.edges l.listed e × (e.to.index ≡ i))
