-- Rows of bits, which show what was done at a node and at those that it is linked to.
use Rattle.std.specs.Prelude.{◌≡◌, ◌↔◌, ◌≤◌, ◌/◌, ◌%◌, ℕ, Bool, true, false, List, Any, Some, length, slice_get, slice_index}
use Rattle.std.specs.Int.{bit_at}
use Rattle.sgt_audit_cells.specs.private.Deeds.{IsOf}
use Rattle.sgt_audit_cells.specs.private.Linked.{chain}
use Rattle.sgt_audit_cells.specs.declared.act.Act.{Act}
use Rattle.sgt_audit_cells.specs.declared.record.Node.{Node}
use Rattle.sgt_audit_cells.specs.declared.row.Row.{Row}

-- the bit at this place is set
unfoldable pub HasBit : List ℕ → ℕ → Type 0
HasBit words i = bit_at (slice_index words (i / 64)) (i % 64) ≡ 1

-- the row has a bit set for the item at this place, of its reads or of its changes
abbrev pub HasMark : Row → Bool → ℕ → Type 0
HasMark row false place = HasBit row.reads.items place
HasMark row true place = HasBit row.changes.items place

-- the row shows what these acts did, and nothing else
abbrev pub Shows : List Act → Row → Type 0
Shows acts row = (place : ℕ) (change : Bool) → Any (IsOf place change) acts ↔ HasMark row change place

-- it shows what was done up to its node
abbrev pub IsRowOf : List Node → Row → Type 0
IsRowOf nodes row = (row.upto ≤ length nodes) × Shows (chain nodes row.upto) row

abbrev pub AreRows : List Node → List Row → Type 0
AreRows nodes rows = (i : ℕ) (row : Row) → slice_get rows i ≡ Some row → IsRowOf nodes row
