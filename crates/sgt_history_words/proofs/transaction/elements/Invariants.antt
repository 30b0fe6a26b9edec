use Rattle.std.proofs.Common.{length, ◌≤◌}
use Rattle.sgt_history_words.proofs.transaction.elements.Given as goal

abbrev pub invariant-elements : goal.invariant-elements
invariant-elements l = length l.walk.reader ≤ length l.initial.walk.reader

abbrev pub decreases-elements : goal.decreases-elements
decreases-elements l = length l.walk.reader
