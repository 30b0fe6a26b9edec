-- The places of lines in an order.
use Rattle.std.specs.Prelude.{◌≡◌, ℕ, ◌<◌, List, length, Option, Some, slice_get}
use Rattle.sgt_graph.specs.declared.edge.Edge.{Edge}

-- of the first n of the order the places are kept, each line's one
pub record ArePlacesTo (order : List ℕ) (n : ℕ) (places : List (Option ℕ)) : Type 0 where
  pub there : (line place : ℕ) → slice_get places line ≡ Some (Some place)
      → (place < n) × (slice_get order place ≡ Some line)
  pub back : (line place : ℕ) → place < n → slice_get order place ≡ Some line
      → slice_get places line ≡ Some (Some place)

-- each line has a place
abbrev pub AllPlaced : List (Option ℕ) → Type 0
AllPlaced places = (line : ℕ) → line < length places → (place : ℕ) × (slice_get places line ≡ Some (Some place))

-- so many lines have these places in the order, each one, and nothing else stands there
pub record ArePlaces (order : List ℕ) (lines : ℕ) (places : List (Option ℕ)) : Type 0 where
  pub size : length places ≡ lines
  pub all : AllPlaced places
  pub there : (line place : ℕ) → slice_get places line ≡ Some (Some place) → slice_get order place ≡ Some line
  pub back : (line place : ℕ) → slice_get order place ≡ Some line → slice_get places line ≡ Some (Some place)

-- the edge leads to a later place
pub record LeadsOn (places : List (Option ℕ)) (e : Edge) : Type 0 where
  pub i : ℕ
  pub j : ℕ
  pub from_at : slice_get places e.from ≡ Some (Some i)
  pub to_at : slice_get places e.to ≡ Some (Some j)
  pub before : i < j
