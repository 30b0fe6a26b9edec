use Rattle.std.proofs.Common.{◌≡◌}
use Rattle.sgt_draw.proofs.dot.put_walk.Given as goal

abbrev pub invariant-loop-step : goal.invariant-loop-step
invariant-loop-step l = l.canvas.shown ≡ l.initial.canvas.shown
