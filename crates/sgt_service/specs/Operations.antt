-- The operations of a script, one after another.
use Rattle.std.specs.Prelude.{◌≡◌, ◌⊎◌, ◌↔◌, ◌+◌, ◌^◌, ℕ, List, [], ◌∷◌, ◌++◌, Bool, true, false, nat_lt, Option, Some, None, IsSome}
use Rattle.sgt_names.specs.Name.{Name}
use Rattle.sgt_names.specs.Draft.{added_to, change_at, seen_at, ChangesOnly}
use Rattle.sgt_names.specs.declared.draft.Touch.{Touch}
use Rattle.sgt_names.specs.declared.entry.Change.{Change}
use Rattle.sgt_names.specs.declared.entry.Change.TheVariants as change
use Rattle.sgt_notation.specs.declared.script.Op.{Op}
use Rattle.sgt_notation.specs.declared.script.Op.TheVariants.{Read, Put, Add, Sum}
use Rattle.sgt_certifier.specs.declared.call.Call.TheVariants as call
use Rattle.sgt_service_locks.specs.Guarded.{HasAdded, IsTicketOf}
use Rattle.sgt_service_agreement.specs.declared.fault.ServiceFault.{ServiceFault}
use Rattle.sgt_service_locks.specs.Reads.{look_in, GainsRead}
use Rattle.sgt_service_locks.specs.Refused.{IsOfRead, IsOfChange}
use Rattle.sgt_service_locks.specs.declared.active.Active.{Active}
use Rattle.sgt_workers.specs.declared.ticket.Ticket.{Ticket}
use Rattle.sgt_workers.specs.declared.ticket.Ending.TheVariants.{Withdrawn}

-- the sum with what is seen is no greater than the greatest value
abbrev pub sum_fits : Option ℕ → ℕ → Bool
sum_fits (Some seen) v = nat_lt (seen + v) (2 ^ 64)
sum_fits None v = true

-- so is that of the operation, if it is a sum, with what a transaction sees in its draft
abbrev pub op_fits : List Touch → Op → Bool
op_fits touched (Sum s x t y v) = sum_fits (look_in touched t y) v
op_fits touched _ = true

-- a draft has this private change of the item, and no other item is touched
abbrev pub Changes : ℕ → Name → Change → List Touch → List Touch → Type 0
Changes s x c old new =
    ChangesOnly old new (record { site = s; item = x; seen = seen_at old (s, x); change = Some c })

-- a draft has a private write of the sum
abbrev pub PutsSum : ℕ → Name → Option ℕ → ℕ → List Touch → List Touch → Type 0
PutsSum s x source v old new = (seen : ℕ) × (source ≡ Some seen)
    × Changes s x (change.Put (seen + v)) old new

-- what a read at the site and without it leaves
abbrev pub KeepsRead : ℕ → Name → List Touch → List Touch → Type 0
KeepsRead s x old new = (look_in old s x ≡ None → GainsRead s x old new)
    × (IsSome (look_in old s x) → new ≡ old)

-- the operation is done: a read is kept and answers what the draft shows then, anything else
-- changes the draft alone
abbrev pub Does : Op → (old new : List Touch) → (reads reads' : List ℕ) → Type 0
Does (Read s x) old new reads reads' =
    KeepsRead s x old new × ((v : ℕ) × (look_in new s x ≡ Some v) × (reads' ≡ reads ++ v ∷ []))
Does (Put s x v) old new reads reads' = Changes s x (change.Put v) old new × (reads' ≡ reads)
Does (Add s x v) old new reads reads' = Changes s x (added_to (change_at old (s, x)) v) old new
    × (reads' ≡ reads)
Does (Sum s x t y v) old new reads reads' = PutsSum s x (look_in old t y) v old new
    × (reads' ≡ reads)

-- the operations are done one after another: all of them, or those in front of the first whose sum
-- is too large
abbrev pub DoesAll : List Op → Bool → (old new : List Touch) → (reads reads' : List ℕ) → Type 0
DoesAll [] all old new reads reads' = (all ≡ true) × (new ≡ old) × (reads' ≡ reads)
DoesAll (op ∷ ops) all old new reads reads' =
    ((op_fits old op ≡ false) × (all ≡ false) × (new ≡ old) × (reads' ≡ reads))
    ⊎ ((op_fits old op ≡ true)
    × ((mid : List Touch) × (heard : List ℕ) × Does op old mid reads heard
    × DoesAll ops all mid new heard reads'))

-- what an operation may be refused for
abbrev pub IsOfOperation : ServiceFault → Type 0
IsOfOperation f = IsOfRead f ⊎ IsOfChange f

-- A try of the script by this transaction, which heard these values: it began and did what the
-- script says, all of it or what stands in front
-- of the first sum that is too large, and nothing else. The ticket is of its end: it is withdrawn
-- where a sum is too large, and else decided
pub record TriesBy (active : Active) (ops : List Op) (t : Ticket) (reads : List ℕ) : Type 0 where
  pub begun : HasAdded (call.Begin active.tx active.handle)
  pub all : Bool
  pub does : DoesAll ops all [] active.draft.touched [] reads
  pub withdrawn : (t.verdict ≡ Withdrawn) ↔ (all ≡ false)
  pub sites : ℕ
  pub told : IsTicketOf sites active t

-- a try of the script by some transaction
abbrev pub Tries : List Op → Ticket → List ℕ → Type 0
Tries ops t reads = (active : Active) × TriesBy active ops t reads
