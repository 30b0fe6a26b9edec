use Rattle.std.proofs.Common.{◌≡◌, length}
use Rattle.sgt_service_settle.specs.private.Deeds.{AreBare}
use Rattle.sgt_service_settle.proofs.deeds.no_tracks.Given as goal

abbrev pub invariant-loop-at : goal.invariant-loop-at
invariant-loop-at l = record { long : length l.tracks.items ≡ l._at; bare : AreBare l.tracks.items }
