use Rattle.std.proofs.Common.{◌≡◌, ◌+◌, ◌<◌, ℕ, Some, Vec}
use Rattle.std.specs.Prelude.{slice_get}
use Rattle.std.specs.declared.alloc.Global.{Global}
use Rattle.sgt_service_settle.specs.declared.deeds.Track.{Track}
use Rattle.sgt_service_settle.specs.declared.link.Link.{Link}
use Rattle.sgt_service_settle.specs.private.Joined.{AreUnder, AreDeedsCarried}
use Rattle.sgt_service_settle.proofs.joined.are_joined.Given as goal

abbrev pub invariant-loop-at : goal.invariant-loop-at
invariant-loop-at l = record {
  under : AreUnder l.marks (l.marks.step + 1);
  carried : (k : ℕ) (t : Track) (row : Vec Link Global) → k < l.at → slice_get l.tracks k ≡ Some t
      → slice_get l.rows k ≡ Some row
      → AreDeedsCarried row.items t.deeds.items;
}
