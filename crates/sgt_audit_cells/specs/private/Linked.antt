-- What transactions did in the open section, each linked to the one before it.
use Rattle.std.specs.Prelude.{◌≡◌, ◌==◌, ◌&&◌, ◌<◌, ◌≤◌, ℕ, zero, suc, List, [], ◌∷◌, ◌++◌, Option, Some, None, All, map, slice_get, if◌then◌else◌}
use Rattle.sgt_audit_cells.specs.Records.{Record}
use Rattle.sgt_audit_cells.specs.private.Deeds.{act_of}
use Rattle.sgt_audit_cells.specs.declared.act.Act.{Act}
use Rattle.sgt_audit_cells.specs.declared.record.Node.{Node}
use Rattle.sgt_audit_cells.specs.declared.record.Slot.{Slot}

-- what the node at this place did, behind what it is linked to
abbrev pub behind : (ℕ → List Act) → ℕ → Option Node → List Act
behind acts i None = []
behind acts i (Some n) = acts n.before ++ act_of i n.done ∷ []

-- what stands at a place, counted from 1, behind what it is linked to, at most so many
abbrev pub chain_by : ℕ → List Node → ℕ → List Act
chain_by zero nodes k = []
chain_by (suc most) nodes zero = []
chain_by (suc most) nodes (suc i) = behind (chain_by most nodes) i (slice_get nodes i)

abbrev pub chain : List Node → ℕ → List Act
chain nodes k = chain_by k nodes k

-- each is linked to an earlier one, or to none
abbrev pub AreLinked : List Node → Type 0
AreLinked nodes = (i : ℕ) (n : Node) → slice_get nodes i ≡ Some n → n.before ≤ i

-- where the last that a transaction did in the section of this stamp stands. 0 is none
abbrev pub last_here : ℕ → Slot → ℕ
last_here stamp s = if s.stamp == stamp then s.last else 0

-- no transaction's last place in the section is past so many
abbrev pub AreWithin : ℕ → ℕ → List Slot → Type 0
AreWithin stamp bound slots = All (λ s. last_here stamp s ≤ bound) slots

-- each was stamped before this stamp came
abbrev pub AreEarlier : ℕ → List Slot → Type 0
AreEarlier stamp slots = All (λ s. s.stamp < stamp) slots

-- what is kept of a transaction in the section of this stamp
abbrev pub record_of : ℕ → List Node → Slot → Record
record_of stamp nodes s = record {
  touched = s.stamp == stamp;
  ended = (s.stamp == stamp) && s.ended;
  acts = chain nodes (last_here stamp s);
}

abbrev pub records_of : ℕ → List Node → List Slot → List Record
records_of stamp nodes slots = map (record_of stamp nodes) slots
