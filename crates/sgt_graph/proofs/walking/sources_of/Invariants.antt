use Rattle.sgt_graph.proofs.Trails.{AreSources}
use Rattle.sgt_graph.proofs.walking.sources_of.Given as goal

abbrev pub invariant-loop-edge : goal.invariant-loop-edge
invariant-loop-edge l = AreSources l.waits l.edges l.edge-index l.sources.items
