use Rattle.std.proofs.Common.{List}
use Rattle.sgt_graph.specs.declared.edge.Edge.{Edge}
use Rattle.sgt_history_kept.specs.Decided.{AreJoined}
use Rattle.sgt_history_kept.proofs.round.none_joined.Given as goal

abbrev pub invariant-lines : goal.invariant-lines
invariant-lines l = (edges : List Edge) → AreJoined edges l.joined.items
