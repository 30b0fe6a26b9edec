use Rattle.std.proofs.Common.{map, take}
use Rattle.sgt_history_picture.specs.Told.{Lead, step_of}
use Rattle.sgt_history_picture.proofs.cycle.is_circle.Given as goal

abbrev pub invariant-loop-step : goal.invariant-loop-step
invariant-loop-step l = Lead l.first.to.now (take l.step-index (map step_of l.rest)) l.at
