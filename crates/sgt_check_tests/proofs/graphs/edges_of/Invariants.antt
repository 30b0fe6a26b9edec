use Rattle.std.proofs.Common.{All}
use Rattle.sgt_graph.specs.Graph.{JoinsNodes}
use Rattle.sgt_check_tests.proofs.graphs.edges_of.Given as goal

abbrev pub invariant-loop-pair : goal.invariant-loop-pair
invariant-loop-pair l = All (JoinsNodes l.fn.nodes) l.edges.items
