use Rattle.std.proofs.Common.{length, ◌≤◌}
use Rattle.sgt_history_text.proofs.Gathered.{Collects}
use Rattle.sgt_history_text.proofs.members.members.Given as goal

abbrev pub invariant-members : goal.invariant-members
invariant-members l = Collects l.initial.reader l.reader l.initial.builder l.builder l.found
    × (length l.reader ≤ length l.initial.reader)

abbrev pub decreases-members : goal.decreases-members
decreases-members l = length l.reader
