-- The reads of transactions that have no end yet.
use Rattle.std.specs.Prelude.{◌≡◌, ◌≢◌, ◌↔◌, ◌⊎◌, ◌%◌, ◌==◌, ℕ, List, [], ◌∷◌, ◌++◌, Option, Some, None, if◌then◌else◌, Contains, Vec, slice_get}
use Rattle.std.specs.declared.alloc.Global.{Global}
use Rattle.std.specs.BTreeMap.{get}
use Rattle.std.specs.Ordering.{nat_cmp}
use Rattle.sgt_names.specs.Name.{Name}
use Rattle.sgt_names.specs.declared.entry.Entry.{Entry}
use Rattle.sgt_site.specs.State.{HasRead, HasEnded}
use Rattle.sgt_site.specs.declared.pending.Pending.{Pending}
use Rattle.sgt_site.specs.declared.pending.Slot.{Slot}

abbrev pub or_nothing : Option (Vec Name Global) → List Name
or_nothing None = []
or_nothing (Some items) = items.items

-- a transaction's place among the slots, by its number
abbrev pub place : ℕ → ℕ
place tx = tx % 64

-- the transaction's reads in a slot
abbrev pub in_slot : Option Slot → ℕ → List Name
in_slot None tx = []
in_slot (Some s) tx = if s.tx == tx then s.items.items else []

-- a read of the transaction may be kept in the slot
abbrev pub MayHold : Slot → ℕ → Type 0
MayHold s tx = (s.items.items ≡ []) ⊎ (s.tx ≡ tx)

-- those of the slot, and where it has none the others
abbrev pub or_else : List Name → List Name → List Name
or_else [] others = others
or_else (x ∷ xs) others = x ∷ xs

-- what is kept of the transaction's reads
abbrev pub items_by : Pending → ℕ → List Name
items_by pending tx =
    or_else (in_slot (slice_get pending.slots.items (place tx)) tx)
    (or_nothing (get nat_cmp pending.reads tx))

-- the transaction's read was added
pub record AddsRead (old new : Pending) (tx : ℕ) (x : Name) : Type 0 where
  pub own : items_by new tx ≡ items_by old tx ++ x ∷ []
  pub others : (t : ℕ) → t ≢ tx → items_by new t ≡ items_by old t

abbrev pub AreSame : Pending → Pending → Type 0
AreSame old new = (t : ℕ) → items_by new t ≡ items_by old t

-- kept are the reads in the log whose transactions have no end there
abbrev pub ArePending : Pending → List Entry → Type 0
ArePending pending entries = (tx : ℕ) (x : Name)
    → Contains (items_by pending tx) x ↔ (HasRead entries tx x × (HasEnded entries tx → ⊥))
