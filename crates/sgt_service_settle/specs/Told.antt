-- What a history tells of edges, names and commits.
use Rattle.std.specs.Prelude.{◌≡◌, ℕ, List, [], map, Contains, Some, slice_get}
use Rattle.std.specs.List.{flat_map}
use Rattle.sgt_arena.specs.declared.handle.Handle.{Handle}
use Rattle.sgt_certifier.specs.Certifier.{Ruling, committed}
use Rattle.sgt_certifier.specs.declared.call.Decided.{Decided}
use Rattle.sgt_certifier.specs.declared.call.Decided.TheVariants as decided
use Rattle.sgt_certifier.specs.declared.call.Call.{Call}
use Rattle.sgt_certifier.specs.declared.call.Call.TheVariants as call
use Rattle.sgt_service_settle.specs.declared.handed.Handed.{Handed}

-- the number of a decision
abbrev pub number_of : Decided → ℕ
number_of (decided.Committed number) = number
number_of (decided.Refused number walk) = number

-- the edges that a call hands to a decision, each with the decision's number
abbrev pub handed_by : Call → List Handed
handed_by (call.Decide h edges reply) =
    map (λ e. record { edge = e; number = number_of reply }) edges
handed_by _ = []

-- the edges that the decisions of a history were handed
abbrev pub handed_in : List Call → List Handed
handed_in history = flat_map handed_by history

-- the transaction began under the handle
abbrev pub IsNamed : List Call → Handle → ℕ → Type 0
IsNamed history h tx = Contains history (call.Begin tx h)

-- the decision of this number commits the transaction
abbrev pub IsCommittedBy : List Ruling → ℕ → ℕ → Type 0
IsCommittedBy rulings tx number = slice_get rulings number ≡ Some (committed tx)

-- some decision commits it
abbrev pub IsCommitted : List Ruling → ℕ → Type 0
IsCommitted rulings tx = (number : ℕ) × IsCommittedBy rulings tx number
