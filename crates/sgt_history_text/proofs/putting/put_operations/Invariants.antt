use Rattle.std.proofs.Common.{length, ◌≤◌}
use Rattle.sgt_history_text.proofs.Appended.{Goes}
use Rattle.sgt_history_text.proofs.putting.put_operations.Given as goal

abbrev pub invariant-items : goal.invariant-items
invariant-items l = Goes l.initial.reader l.reader l.initial.builder l.builder l.are
    × (length l.reader ≤ length l.initial.reader)

abbrev pub decreases-items : goal.decreases-items
decreases-items l = length l.reader
