use Rattle.std.proofs.Common.{length, ◌≤◌}
use Rattle.sgt_history_words.proofs.transaction.operations.Given as goal

abbrev pub invariant-operations : goal.invariant-operations
invariant-operations l = length l.walk.reader ≤ length l.initial.walk.reader

abbrev pub decreases-operations : goal.decreases-operations
decreases-operations l = length l.walk.reader
