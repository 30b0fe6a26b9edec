use Rattle.std.proofs.Common.{◌≡◌}
use Rattle.sgt_site.specs.private.Cells.{AreChanged, versions_of}
use Rattle.sgt_site.proofs.Touching.{NotedSoFar}
use Rattle.sgt_site.proofs.cells.note_all.Given as goal

-- the cells of the items so far are noted, and the versions are theirs
abbrev pub invariant-loop-t : goal.invariant-loop-t
invariant-loop-t l = record {
  changed : AreChanged (NotedSoFar l.by l.part l.t-index) l.fn.cells.items l.cells.items;
  versions : l.versions ≡ versions_of l.cells.items;
}
