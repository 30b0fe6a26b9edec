-- The versions of a site beside the counts of its items.
use Rattle.std.specs.Prelude.{◌≡◌, ◌<◌, ◌⊎◌, ℕ, suc, List, Some, slice_get}
use Rattle.sgt_names.specs.Name.{Name}
use Rattle.sgt_names.specs.declared.entry.Holding.{Holding}
use Rattle.sgt_certifier.specs.Row.{count_in}
use Rattle.sgt_certifier.specs.declared.row.ItemCount.{ItemCount}

-- the versions before this place are the counts of the items there
abbrev pub AreCountedTo : List ItemCount → List Holding → List ℕ → ℕ → Type 0
AreCountedTo counts items versions n =
    (k : ℕ) (h : Holding) → k < n → slice_get items k ≡ Some h
    → slice_get versions k ≡ Some (count_in counts h.item)

-- the item and its version are those of the next count, which is met then; or the version is 0
abbrev pub Meets : List ItemCount → ℕ → Name → ℕ → ℕ → Type 0
Meets counts met x version next =
    ((next ≡ suc met) × (slice_get counts met ≡ Some (record { item = x; count = version })))
    ⊎ ((next ≡ met) × (version ≡ 0))
