-- Rows, where an item stands, and the least of the elements that something holds of.
use Rattle.std.specs.Prelude.{◌≡◌, ◌≤◌, ◌<◌, ◌++◌, ◌∷◌, [], ℕ, min, List, length, Option, Some, None, Contains, Vec, slice_get}
use Rattle.std.specs.declared.alloc.Global.{Global}
use Rattle.sgt_names.specs.Name.{Name}
use Rattle.sgt_names.specs.Ordered.{IsAt}
use Rattle.sgt_names.specs.declared.entry.Holding.{Holding}
use Rattle.sgt_edges.specs.declared.edge.Edge.{Edge}
use Rattle.sgt_service_settle.specs.declared.handed.Handed.{Handed}

abbrev pub with_number : ℕ → Edge → Handed
with_number number e = record { edge = e; number = number }

-- the element stands at this place of this row
abbrev pub At : {T : Type 0} → List (Vec T Global) → ℕ → ℕ → T → Type 0
At {T} rows k n x = (row : Vec T Global) × (slice_get rows k ≡ Some row)
    × (slice_get row.items n ≡ Some x)

-- the row of this number got one more element
pub record Pushed {T : Type 0} (old : List (Vec T Global)) (k : ℕ) (x : T) (new : List (Vec T Global)) : Type 0 where
  pub others : (j : ℕ) → (j ≡ k → ⊥) → slice_get new j ≡ slice_get old j
  pub before : Vec T Global
  pub after : Vec T Global
  pub was : slice_get old k ≡ Some before
  pub now : slice_get new k ≡ Some after
  pub more : after.items ≡ before.items ++ x ∷ []

-- at the place of each site stand those of these edges that are on it, and no others
pub record AreBySite (handed : List Handed) (rows : List (Vec Handed Global)) : Type 0 where
  pub these : (site n : ℕ) (h : Handed) → At rows site n h
      → Contains handed h × (h.edge.label.site ≡ site)
  pub all : (h : Handed) → Contains handed h → h.edge.label.site < length rows
      → (n : ℕ) × At rows h.edge.label.site n h

-- where an item stands
abbrev pub IsItemAt : List Holding → Name → ℕ → Type 0
IsItemAt items x at = IsAt (λ (h : Holding). h.item) items x at

-- the lesser, where there is a first
abbrev pub lesser : Option ℕ → ℕ → ℕ
lesser None k = k
lesser (Some j) k = min j k

-- the number is the least of an element of which Q holds; None where it holds of none
abbrev pub IsLeastOf : {A : Type 0} → (A → ℕ) → (A → Type 0) → List A → Option ℕ → Type 0
IsLeastOf {A} key Q xs None = (a : A) → Contains xs a → Q a → ⊥
IsLeastOf {A} key Q xs (Some k) =
    ((a : A) × Contains xs a × (key a ≡ k) × Q a) × ((a : A) → Contains xs a → Q a → k ≤ key a)
