use Rattle.std.proofs.Common.{◌≤◌}
use Rattle.sgt_history.specs.Serial.{NoneWrites}
use Rattle.sgt_history_evidence.proofs.writers.last_written.Given as goal

abbrev pub invariant-loop-at : goal.invariant-loop-at
invariant-loop-at l = record {
  within : l.at ≤ l.place;
  none : NoneWrites l.operations l.at l.place l.item;
}

abbrev pub decreases-loop-at : goal.decreases-loop-at
decreases-loop-at l = l.at
