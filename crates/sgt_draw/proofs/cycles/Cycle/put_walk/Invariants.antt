use Rattle.std.proofs.Common.{take}
use Rattle.std.specs.List.{flat_map}
use Rattle.sgt_draw.specs.Sheet.{Adds}
use Rattle.sgt_draw.specs.Wanted.{other_on}
use Rattle.sgt_draw.proofs.cycles.Cycle.put_walk.Given as goal

abbrev pub invariant-loop-step : goal.invariant-loop-step
invariant-loop-step l = Adds (flat_map (other_on l.self.tx) (take l.step-index l.self.walk.now)) l.initial.canvas.shown l.canvas.shown
