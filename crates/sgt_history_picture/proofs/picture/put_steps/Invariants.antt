use Rattle.std.proofs.Common.{map, take}
use Rattle.sgt_history_picture.specs.Private.{ArePut}
use Rattle.sgt_history_picture.specs.Told.{step_of}
use Rattle.sgt_history_picture.proofs.picture.put_steps.Given as goal

abbrev pub invariant-loop-place : goal.invariant-loop-place
invariant-loop-place l = ArePut (map step_of (take l.place l.steps)) l.fn.canvas l.canvas
