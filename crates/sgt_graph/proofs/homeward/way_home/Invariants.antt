use Rattle.std.proofs.Common.{ℕ, List}
use Rattle.sgt_graph.specs.declared.edge.Edge.{Edge}
use Rattle.sgt_graph.specs.Nearest.{AreRowsOf, IsOnWay}
use Rattle.sgt_graph.proofs.homeward.way_home.Given as goal

abbrev pub invariant-home : goal.invariant-home
invariant-home l = (nodes : ℕ) (edges : List Edge) → AreRowsOf nodes edges l.rows.starts.items l.rows.targets.items
    → IsOnWay edges l.distances l.node l.here l.left l.cycle.items

abbrev pub decreases-home : goal.decreases-home
decreases-home l = l.left
