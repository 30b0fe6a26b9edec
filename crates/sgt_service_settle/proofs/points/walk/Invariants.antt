use Rattle.std.proofs.Common.{◌≤◌, length}
use Rattle.sgt_service_settle.proofs.points.walk.Given as goal

abbrev pub invariant-loop-step : goal.invariant-loop-step
invariant-loop-step l = l.at ≤ length l.acts
