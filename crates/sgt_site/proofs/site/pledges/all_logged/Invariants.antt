use Rattle.std.proofs.Common.{◌≡◌, drop, All}
use Rattle.std.specs.Prelude.{◌↔◌}
use Rattle.std.specs.Option.{ForSome}
use Rattle.sgt_names.specs.declared.draft.Touch.{Touch}
use Rattle.sgt_site.specs.private.Cells.{InCells}
use Rattle.sgt_site.proofs.site.pledges.all_logged.Given as goal

-- what is left is logged exactly where the whole is
abbrev pub invariant-loop-t : goal.invariant-loop-t
invariant-loop-t l = All (λ (t : Touch). t.site ≡ l.number → ForSome t.seen (InCells l.cells l.tx t.item))
    (drop l.t-index l.touched) ↔ All (λ (t : Touch). t.site ≡ l.number
    → ForSome t.seen (InCells l.cells l.tx t.item)) l.touched
