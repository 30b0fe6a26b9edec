use Rattle.std.proofs.Common.{◌≤◌, length, Any}
use Rattle.std.specs.Prelude.{◌↔◌}
use Rattle.sgt_audit_cells.specs.private.Deeds.{IsOf}
use Rattle.sgt_audit_cells.specs.private.Linked.{chain}
use Rattle.sgt_audit_cells.proofs.chain.has_done.Given as goal

abbrev pub invariant-nodes : goal.invariant-nodes
invariant-nodes l =
    (l.at ≤ length l.nodes)
    × (Any (IsOf l.place l.change) (chain l.nodes l.last)
    ↔ Any (IsOf l.place l.change) (chain l.nodes l.at))

abbrev pub decreases-nodes : goal.decreases-nodes
decreases-nodes l = l.at
