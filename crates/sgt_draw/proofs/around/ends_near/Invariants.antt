use Rattle.std.proofs.Common.{Contains}
use Rattle.sgt_draw.proofs.around.ends_near.Given as goal

abbrev pub invariant-loop-edge : goal.invariant-loop-edge
invariant-loop-edge l = Contains l.ends.items l.place
