use Rattle.std.proofs.Common.{◌≡◌, ◌≤◌, length, Any}
use Rattle.std.specs.Prelude.{◌↔◌}
use Rattle.sgt_audit_cells.specs.private.Deeds.{ClashesWith}
use Rattle.sgt_audit_cells.specs.private.Linked.{chain}
use Rattle.sgt_audit_cells.proofs.chain.have_clash.Given as goal

abbrev pub invariant-nodes : goal.invariant-nodes
invariant-nodes l =
    (l.at ≤ length l.nodes)
    × (Any (λ a. (a.place ≡ l.place) × Any (ClashesWith l.kind a) (chain l.nodes l.second)) (chain l.nodes l.first)
    ↔ Any (λ a. (a.place ≡ l.place) × Any (ClashesWith l.kind a) (chain l.nodes l.second)) (chain l.nodes l.at))

abbrev pub decreases-nodes : goal.decreases-nodes
decreases-nodes l = l.at
