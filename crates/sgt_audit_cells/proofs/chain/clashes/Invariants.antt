use Rattle.std.proofs.Common.{◌≤◌, length, Any}
use Rattle.std.specs.Prelude.{◌↔◌}
use Rattle.sgt_audit_cells.specs.private.Deeds.{ClashesWith}
use Rattle.sgt_audit_cells.specs.private.Linked.{chain}
use Rattle.sgt_audit_cells.proofs.chain.clashes.Given as goal

abbrev pub invariant-nodes : goal.invariant-nodes
invariant-nodes l =
    (l.at ≤ length l.nodes)
    × (Any (ClashesWith l.kind l.act) (chain l.nodes l.last) ↔ Any (ClashesWith l.kind l.act) (chain l.nodes l.at))

abbrev pub decreases-nodes : goal.decreases-nodes
decreases-nodes l = l.at
