use Rattle.std.proofs.Common.{◌≡◌, length}
use Rattle.sgt_history_kept.specs.Placed.{ArePlacesTo}
use Rattle.sgt_history_kept.proofs.places.places_of.Given as goal

abbrev pub invariant-loop-at : goal.invariant-loop-at
invariant-loop-at l = record { size : length l.places.items ≡ l.lines; kept : ArePlacesTo l.order l.at l.places.items }
