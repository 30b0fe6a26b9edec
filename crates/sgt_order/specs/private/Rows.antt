-- Rows of bits, which say where the edges of a node lead to.
use Rattle.std.specs.Prelude.{◌≡◌, ℕ, ◌/◌, ◌%◌, List, Some, length, slice_get, slice_index}
use Rattle.std.specs.Int.{bit_at}
use Rattle.sgt_edges.specs.declared.edge.Edge.{Edge}
use Rattle.sgt_order.specs.declared.row.Row.{Row}

-- the bit at this place is set
unfoldable pub HasBit : List ℕ → ℕ → Type 0
HasBit words i = bit_at (slice_index words (i / 64)) (i % 64) ≡ 1

-- the row has its words
abbrev pub IsOpenRow : Row → Type 0
IsOpenRow row = length row.words.items ≡ 64

-- the edges from the node with this index lead to nodes whose bits are set
abbrev pub Covers : List Edge → ℕ → List ℕ → Type 0
Covers edges k words = (n : ℕ) (e : Edge) → slice_get edges n ≡ Some e → e.from.index ≡ k
    → HasBit words e.to.index

-- each row that has its words covers the edges of its node
abbrev pub RowsCover : List Row → List Edge → Type 0
RowsCover rows edges = (k : ℕ) (row : Row) → slice_get rows k ≡ Some row → IsOpenRow row
    → Covers edges k row.words.items

-- the row at this place has its words, and each of their bits is among these
abbrev pub IsAmong : List Row → ℕ → List ℕ → Type 0
IsAmong rows k words =
    (row : Row) × (slice_get rows k ≡ Some row) × IsOpenRow row
    × ((i : ℕ) → HasBit row.words.items i → HasBit words i)
