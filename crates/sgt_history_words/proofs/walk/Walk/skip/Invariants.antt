use Rattle.std.proofs.Common.{length, vec_len, ◌+◌, ◌*◌, ◌≤◌}
use Rattle.sgt_history_words.proofs.walk.Walk.skip.Given as goal

abbrev pub invariant-open : goal.invariant-open
invariant-open l = length l.self.reader ≤ length l.initial.self.reader

-- a value begins by a byte, and opens one thing at most
abbrev pub decreases-open : goal.decreases-open
decreases-open l = 2 * length l.self.reader + vec_len l.open
