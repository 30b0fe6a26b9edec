use Rattle.std.proofs.Common.{◌≡◌, length}
use Rattle.sgt_service_settle.specs.private.Deeds.{AreTracks}
use Rattle.sgt_service_settle.proofs.deeds.tracks_of.Given as goal

abbrev pub invariant-loop-place : goal.invariant-loop-place
invariant-loop-place l =
    record {
      long : length l.tracks.items ≡ length l.items;
      tracks : AreTracks l.commits l.items l.log l.place l.tracks.items;
    }
