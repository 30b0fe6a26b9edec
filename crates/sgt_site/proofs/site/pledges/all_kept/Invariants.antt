use Rattle.std.proofs.Common.{drop, All}
use Rattle.std.specs.Prelude.{◌↔◌}
use Rattle.sgt_site.specs.private.Cells.{KeepsItem}
use Rattle.sgt_site.proofs.site.pledges.all_kept.Given as goal

-- what is left is kept exactly where the whole is
abbrev pub invariant-loop-item : goal.invariant-loop-item
invariant-loop-item l = All (KeepsItem l.touched l.number) (drop l.item-index l.own)
    ↔ All (KeepsItem l.touched l.number) l.own
