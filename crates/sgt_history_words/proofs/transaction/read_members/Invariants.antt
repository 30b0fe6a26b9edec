use Rattle.std.proofs.Common.{length, ◌≤◌}
use Rattle.sgt_history_words.proofs.transaction.read_members.Given as goal

abbrev pub invariant-members : goal.invariant-members
invariant-members l = length l.walk.reader ≤ length l.initial.walk.reader

abbrev pub decreases-members : goal.decreases-members
decreases-members l = length l.walk.reader
