use Rattle.std.proofs.Common.{All}
use Rattle.sgt_graph.specs.Graph.{JoinsNodes}
use Rattle.sgt_history_kept.proofs.drawing.draw_sessions.Given as goal

abbrev pub invariant-loop-at : goal.invariant-loop-at
invariant-loop-at l = All (JoinsNodes l.layout.nodes) l.fn.edges.items → All (JoinsNodes l.layout.nodes) l.edges.items
