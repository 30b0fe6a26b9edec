use Rattle.std.proofs.Common.{length, ◌≤◌}
use Rattle.sgt_history_text.proofs.Gathered.{Gathers}
use Rattle.sgt_history_text.proofs.shallow.parts.Given as goal

abbrev pub invariant-items : goal.invariant-items
invariant-items l = Gathers l.initial.reader l.reader l.found.items × (length l.reader ≤ length l.initial.reader)

abbrev pub decreases-items : goal.decreases-items
decreases-items l = length l.reader
