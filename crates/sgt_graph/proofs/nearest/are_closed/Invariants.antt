use Rattle.std.proofs.Common.{◌≡◌, ℕ, ◌+◌, ◌<◌, ◌≤◌, Some, slice_index}
use Rattle.std.specs.Prelude.{slice_get}
use Rattle.sgt_graph.specs.declared.edge.Edge.{Edge}
use Rattle.sgt_graph.proofs.nearest.are_closed.Given as goal

abbrev pub invariant-loop-edge : goal.invariant-loop-edge
invariant-loop-edge l = (k : ℕ) (e : Edge) → k < l.edge-index → slice_get l.edges k ≡ Some e
    → slice_index l.distances e.from ≤ slice_index l.distances e.to + 1
