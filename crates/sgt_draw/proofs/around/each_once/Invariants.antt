use Rattle.std.proofs.Common.{All, Contains, take}
use Rattle.sgt_draw.proofs.around.each_once.Given as goal

abbrev pub invariant-loop-end : goal.invariant-loop-end
invariant-loop-end l = All (Contains l.places.items) (take l.end-index l.ends)
