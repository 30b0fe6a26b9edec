use Rattle.std.proofs.Common.{take, All}
use Rattle.sgt_site.specs.private.Cells.{IsThere}
use Rattle.sgt_site.proofs.Touching.{RoomSoFar}
use Rattle.sgt_site.proofs.cells.prepare_all.Given as goal

-- the items so far are there, and their cells have room
abbrev pub invariant-loop-t : goal.invariant-loop-t
invariant-loop-t l = record {
  room : RoomSoFar l.part l.t-index l.fn.cells.items l.cells.items;
  there : All (IsThere l.fn.cells.items l.tx) (take l.t-index l.part);
}
