use Rattle.std.proofs.Common.{◌≤◌, ◌-◌, length}
use Rattle.sgt_history_faults.specs.Group.{AreEarlier}
use Rattle.sgt_history_faults.proofs.judging.skip_earlier.Given as goal

abbrev pub invariant-loop-at : goal.invariant-loop-at
invariant-loop-at l = record {
  within : l.at ≤ length l.writes;
  before : AreEarlier l.writes l.at l.line;
}

abbrev pub decreases-loop-at : goal.decreases-loop-at
decreases-loop-at l = length l.writes - l.at
