use Rattle.std.proofs.Common.{◌≢◌, All, take}
use Rattle.sgt_draw.proofs.around.place_in.Given as goal

abbrev pub invariant-loop-place : goal.invariant-loop-place
invariant-loop-place l = All (λ c. c.tx ≢ l.tx) (take l.place l.committed)
