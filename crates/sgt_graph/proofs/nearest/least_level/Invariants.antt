use Rattle.sgt_graph.proofs.Levels.{LeastUpTo}
use Rattle.sgt_graph.proofs.nearest.least_level.Given as goal

abbrev pub invariant-loop-edge : goal.invariant-loop-edge
invariant-loop-edge l = LeastUpTo l.edges l.ranks l.edge-index l.least
