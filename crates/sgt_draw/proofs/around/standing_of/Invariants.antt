use Rattle.std.proofs.Common.{◌≢◌, All, take}
use Rattle.sgt_draw.proofs.around.standing_of.Given as goal

abbrev pub invariant-loop-at : goal.invariant-loop-at
invariant-loop-at l = All (λ p. p ≢ l.place) (take l.at l.places)
