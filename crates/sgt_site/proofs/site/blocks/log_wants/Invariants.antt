use Rattle.std.proofs.Common.{◌≡◌, ◌+◌, ◌≤◌, ◌++◌, length, drop, map}
use Rattle.sgt_names.specs.Draft.{writing_in}
use Rattle.sgt_site.specs.State.{want_entry}
use Rattle.sgt_site.proofs.site.blocks.log_wants.Given as goal

-- what is logged, and what is left to log
abbrev pub invariant-loop-t : goal.invariant-loop-t
invariant-loop-t l = record {
  logged : l.log.entries ++ map (λ w. want_entry l.tx w.0 w.1) (writing_in (drop l.t-index l.part)) ≡ l.fn.log.entries
      ++ map (λ w. want_entry l.tx w.0 w.1) (writing_in l.part);
  items : l.log.items ≡ l.fn.log.items;
  installed : l.log.installed ≡ l.fn.log.installed;
  room : l.fn.log.spare ≤ l.log.spare + l.t-index;
  spare : l.log.spare + length (writing_in l.part) ≡ l.fn.log.spare + length (writing_in (drop l.t-index l.part));
}
