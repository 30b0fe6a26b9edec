use Rattle.sgt_history_kept.specs.Decided.{AreJoined}
use Rattle.sgt_history_kept.proofs.round.joined_lines.Given as goal

abbrev pub invariant-loop-at : goal.invariant-loop-at
invariant-loop-at l = AreJoined l.edges l.joined.items
