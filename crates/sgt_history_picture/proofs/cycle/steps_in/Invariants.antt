use Rattle.std.proofs.Common.{◌≤◌, length, map}
use Rattle.sgt_history_picture.specs.Told.{step_of}
use Rattle.sgt_history_picture.proofs.Cycles.{IsFront}
use Rattle.sgt_history_picture.proofs.cycle.steps_in.Given as goal

abbrev pub invariant-loop-end : goal.invariant-loop-end
invariant-loop-end l = IsFront l.text l.rest (map step_of l.steps.items) × (length l.rest ≤ length l.text)

abbrev pub decreases-loop-end : goal.decreases-loop-end
decreases-loop-end l = length l.rest
