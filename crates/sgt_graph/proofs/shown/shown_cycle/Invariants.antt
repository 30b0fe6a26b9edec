use Rattle.sgt_graph.specs.Nearest.{NoneBelow}
use Rattle.sgt_graph.proofs.shown.shown_cycle.Given as goal

abbrev pub invariant-loop-node : goal.invariant-loop-node
invariant-loop-node l = NoneBelow l.edges l.node
