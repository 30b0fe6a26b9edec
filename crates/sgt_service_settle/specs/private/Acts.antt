-- What was done to each item of a site.
use Rattle.std.specs.Prelude.{◌≡◌, ◌↔◌, ◌<◌, ℕ, List, All, Some, Vec, Contains, slice_get}
use Rattle.std.specs.declared.alloc.Global.{Global}
use Rattle.std.specs.List.Sorted.{IsNonDecreasingBy, IsPermutation}
use Rattle.std.specs.Option.{ForSome}
use Rattle.sgt_names.specs.Name.{Name}
use Rattle.sgt_names.specs.Log.{names}
use Rattle.sgt_names.specs.Entry.{tx_of, item_of, Clash}
use Rattle.sgt_names.specs.declared.entry.Entry.{Entry}
use Rattle.sgt_names.specs.declared.entry.Holding.{Holding}
use Rattle.sgt_names.specs.declared.entry.Kind.{Kind}
use Rattle.sgt_service_settle.specs.declared.acts.Act.{Act}
use Rattle.sgt_service_settle.specs.private.Words.{IsItemAt}

-- whose act it is
abbrev pub actor : Act → ℕ
actor a = tx_of a.entry

-- each operation of the log is on an item that is there
abbrev pub AreKnown : List Holding → List Entry → Type 0
AreKnown items log = All (λ e. ForSome (item_of e) (Contains (names items))) log

-- the act is an operation of the log on the item
abbrev pub IsActOn : List Entry → Name → Act → Type 0
IsActOn log x a = (slice_get log a.place ≡ Some a.entry) × (item_of a.entry ≡ Some x)

-- at the place of each item stand the operations of the log on it, and no others
abbrev pub AreActs : List Holding → List Entry → List (Vec Act Global) → Type 0
AreActs items log acts = (at : ℕ) (x : Name) (row : Vec Act Global) → IsItemAt items x at
    → slice_get acts at ≡ Some row
    → (a : Act) → Contains row.items a ↔ IsActOn log x a

-- those of an item in the order of their transactions
abbrev pub AreByActor : List (Vec Act Global) → Type 0
AreByActor acts = (at : ℕ) (row : Vec Act Global) → slice_get acts at ≡ Some row
    → IsNonDecreasingBy actor row.items

-- one row was put in the order of its transactions
pub record IsSortedAt (old : List (Vec Act Global)) (at : ℕ) (new : List (Vec Act Global)) : Type 0 where
  pub others : (k : ℕ) → (k ≡ at → ⊥) → slice_get new k ≡ slice_get old k
  pub before : Vec Act Global
  pub after : Vec Act Global
  pub was : slice_get old at ≡ Some before
  pub now : slice_get new at ≡ Some after
  pub same : IsPermutation before.items after.items
  pub sorted : IsNonDecreasingBy actor after.items

-- one of the acts precedes and conflicts with one of the others, as operations of this kind
pub record AreBetween (from to : List Act) (kind : Kind) (x : Name) : Type 0 where
  pub n : ℕ
  pub m : ℕ
  pub a : Act
  pub b : Act
  pub first : slice_get from n ≡ Some a
  pub second : slice_get to m ≡ Some b
  pub before : a.place < b.place
  pub clash : Clash kind x a.entry b.entry
