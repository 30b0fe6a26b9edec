use Rattle.std.proofs.Common.{◌≡◌, drop, All}
use Rattle.std.specs.Prelude.{◌↔◌, IsSome}
use Rattle.sgt_names.specs.declared.draft.Touch.{Touch}
use Rattle.sgt_site.specs.private.Cells.{HasItem}
use Rattle.sgt_site.proofs.site.pledges.changes_known.Given as goal

-- what is left is known exactly where the whole is
abbrev pub invariant-loop-t : goal.invariant-loop-t
invariant-loop-t l = All (λ (t : Touch). t.site ≡ l.number → IsSome t.change
    → HasItem l.cells t.item) (drop l.t-index l.touched) ↔ All (λ (t : Touch). t.site ≡ l.number → IsSome t.change
    → HasItem l.cells t.item) l.touched
