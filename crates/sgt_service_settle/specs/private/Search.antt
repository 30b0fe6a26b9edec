-- The search over rows of edges.
use Rattle.std.specs.Prelude.{◌≡◌, ◌⊎◌, ◌↔◌, true, ℕ, ◌+◌, ◌<◌, ◌≤◌, List, Some, Bool, not, length, slice_get, filter, Vec}
use Rattle.std.specs.declared.alloc.Global.{Global}
use Rattle.sgt_names.specs.declared.entry.Label.{Label}
use Rattle.sgt_order.specs.Graph.{Reaches}
use Rattle.sgt_service_settle.specs.declared.link.Arc.{Arc}
use Rattle.sgt_service_settle.specs.declared.link.Cut.{Cut}
use Rattle.sgt_service_settle.specs.declared.link.Link.{Link}

-- the number stands in the list
abbrev pub On : List ℕ → ℕ → Type 0
On xs k = (n : ℕ) × (slice_get xs n ≡ Some k)

-- the transaction has a mark
abbrev pub IsMarked : List Bool → ℕ → Type 0
IsMarked marks k = slice_get marks k ≡ Some true

-- how many have no mark
abbrev pub unmarked : List Bool → ℕ
unmarked marks = length (filter not marks)

-- those that P holds of were marked and put on the stack, where they had no mark, and nothing else
pub record Marked (P : ℕ → Type 0) (old : List Bool) (was : List ℕ) (new : List Bool) (now : List ℕ) : Type 0 where
  pub kept : (k : ℕ) → IsMarked old k → IsMarked new k
  pub fresh : (k : ℕ) → IsMarked new k → IsMarked old k ⊎ (P k × On now k)
  pub grew : (k : ℕ) → On was k → On now k
  pub known : (k : ℕ) → On now k → On was k ⊎ IsMarked new k
  pub done : (k : ℕ) → P k → IsMarked new k
  pub size : unmarked new + length now ≡ unmarked old + length was
  pub long : length new ≡ length old

-- an edge with this label, handed to this decision, is on the item of the site and early enough
pub record Passes (cut : Cut) (label : Label) (number : ℕ) : Type 0 where
  pub site : label.site ≡ cut.site
  pub item : label.item ≡ cut.item
  pub early : number ≤ cut.last

-- an edge of the row that passes leads to k
abbrev pub IsTarget : List Arc → Cut → ℕ → Type 0
IsTarget row cut k = (n : ℕ) × (arc : Arc) × (slice_get row n ≡ Some arc) × (arc.to ≡ k)
    × Passes cut arc.label arc.number

-- the edges of the row that pass lead to transactions of these numbers
abbrev pub AreWithin : List Arc → Cut → ℕ → Type 0
AreWithin row cut all = (k : ℕ) → IsTarget row cut k → k < all

-- an edge of the rows that passes leads from a to b
abbrev pub InRows : List (Vec Arc Global) → Cut → ℕ → ℕ → Type 0
InRows rows cut a b = (row : Vec Arc Global) × (slice_get rows a ≡ Some row)
    × IsTarget row.items cut b

abbrev pub AreRowsWithin : List (Vec Arc Global) → Cut → Type 0
AreRowsWithin rows cut = (a b : ℕ) → InRows rows cut a b → b < length rows

-- the rows have the edges of R
abbrev pub Hold : List (Vec Arc Global) → (Cut → ℕ → ℕ → Type 0) → Type 0
Hold rows R = (cut : Cut) (a b : ℕ) → InRows rows cut a b ↔ R cut a b

-- the rows got one more edge
abbrev pub Adds : List (Vec Arc Global) → ℕ → Arc → List (Vec Arc Global) → Type 0
Adds old from arc new = (cut : Cut) (a b : ℕ) →
    InRows new cut a b
    ↔ (InRows old cut a b ⊎ ((from ≡ a) × (arc.to ≡ b) × Passes cut arc.label arc.number))

-- the marks tell whom the transaction reaches
abbrev pub Told : List (Vec Arc Global) → Cut → ℕ → List Bool → Type 0
Told rows cut start marks = (k : ℕ) → IsMarked marks k ↔ Reaches (InRows rows cut) start k

-- a link that passes leads from a to b
abbrev pub LinksBy : List Link → Cut → ℕ → ℕ → Type 0
LinksBy links cut a b =
    (n : ℕ) × (l : Link) × (slice_get links n ≡ Some l) × (l.from ≡ a) × (l.to ≡ b)
    × Passes cut l.label l.number

abbrev pub AreEnds : List Link → ℕ → Type 0
AreEnds links all = (n : ℕ) (l : Link) → slice_get links n ≡ Some l → (l.from < all) × (l.to < all)
