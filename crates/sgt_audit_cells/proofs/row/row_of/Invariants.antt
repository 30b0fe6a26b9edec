use Rattle.std.proofs.Common.{◌≡◌, ◌≤◌, ◌⊎◌, ℕ, Bool, length, Any}
use Rattle.std.specs.Prelude.{◌↔◌}
use Rattle.sgt_audit_cells.specs.private.Deeds.{IsOf}
use Rattle.sgt_audit_cells.specs.private.Linked.{chain}
use Rattle.sgt_audit_cells.specs.private.Rows.{HasMark}
use Rattle.sgt_audit_cells.proofs.row.row_of.Given as goal

abbrev pub invariant-nodes : goal.invariant-nodes
invariant-nodes l =
    (l.at ≤ length l.nodes) × (l.row.upto ≡ l.last)
    × ((place : ℕ) (change : Bool) → Any (IsOf place change) (chain l.nodes l.last)
    ↔ (HasMark l.row change place ⊎ Any (IsOf place change) (chain l.nodes l.at)))

abbrev pub decreases-nodes : goal.decreases-nodes
decreases-nodes l = l.at
