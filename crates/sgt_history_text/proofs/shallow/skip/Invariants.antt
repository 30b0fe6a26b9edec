use Rattle.std.proofs.Common.{length, ◌≤◌}
use Rattle.sgt_history_text.proofs.Opened.{Skips}
use Rattle.sgt_history_text.proofs.shallow.skip.Given as goal

abbrev pub invariant-open : goal.invariant-open
invariant-open l = Skips l.object l.initial.reader l.open.items l.reader × (length l.reader ≤ length l.initial.reader)

abbrev pub decreases-open : goal.decreases-open
decreases-open l = length l.reader
