use Rattle.std.proofs.Common.{All}
use Rattle.sgt_graph.specs.Graph.{JoinsNodes}
use Rattle.sgt_graph.proofs.through.turned.Given as goal

abbrev pub invariant-loop-edge : goal.invariant-loop-edge
invariant-loop-edge l = All (JoinsNodes l.fn.nodes) l.turned.items
