use Rattle.std.proofs.Common.{◌≡◌, length}
use Rattle.sgt_check.specs.Key.{ArePlaced}
use Rattle.sgt_check.proofs.ranks.places.Given as goal

abbrev pub invariant-loop-at : goal.invariant-loop-at
invariant-loop-at l = (length l.places.items ≡ l.count) × ArePlaced l.ranked l.places.items l.count l.at
