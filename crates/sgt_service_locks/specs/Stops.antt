-- Why a transaction has no ticket, before it is handed back.
use Rattle.std.specs.Prelude.{◌≡◌, ℕ, Option, Some, None, IfSome}
use Rattle.sgt_certifier.specs.Kept.{Kept}
use Rattle.sgt_workers.specs.declared.ticket.Ending.{Ending}
use Rattle.sgt_service_agreement.specs.declared.fault.ServiceFault.{ServiceFault}
use Rattle.sgt_service_agreement.specs.declared.fault.ServiceFault.TheVariants.{NotPledged}
use Rattle.sgt_service_locks.specs.Seats.{SameSeat, CountsLoss}
use Rattle.sgt_service_locks.specs.declared.active.Active.{Active}
use Rattle.sgt_service_locks.specs.declared.active.Back.{Back}
use Rattle.sgt_service_locks.specs.declared.seat.Seat.{Seat}
use Rattle.sgt_service_locks.specs.declared.ending.Stop.{Stop}
use Rattle.sgt_service_locks.specs.declared.ending.Stop.TheVariants.{Undecided, Lost}

-- what comes back
abbrev pub back_of : Active → Stop → Back
back_of active (Undecided fault) = record { active = Some active; fault = fault }
back_of active (Lost verdict site) = record { active = None; fault = NotPledged site }

-- the site that a V7 names is noted, and any other fault leaves what was noted
abbrev pub NotesLoss : Option ℕ → Option ℕ → ServiceFault → Type 0
NotesLoss was lost fault =
    ((site : ℕ) → fault ≡ NotPledged site → lost ≡ Some site)
    × (((site : ℕ) → fault ≡ NotPledged site → ⊥) → lost ≡ was)

-- this is why the transaction comes back, where it does
abbrev pub ComesBackBy : (ServiceFault → Type 0) → Back → Type 0
ComesBackBy why back = IfSome back.active (λ same. why back.fault)

-- what a step that was stopped leaves under the certifier's lock. Where nothing is decided, the
-- history is as it was
abbrev pub LeavesGuard : Kept → Kept → Option ℕ → Option ℕ → Stop → Type 0
LeavesGuard old new was lost (Undecided fault) = (new.state ≡ old.state)
    × (new.history ≡ old.history) × NotesLoss was lost fault
LeavesGuard old new was lost (Lost verdict site) = lost ≡ Some site

-- this is why it isn't decided
abbrev pub IsUndecidedBy : (ServiceFault → Type 0) → Stop → Type 0
IsUndecidedBy why (Undecided fault) = why fault
IsUndecidedBy why (Lost verdict site) = Unit {0}

module _ {L : Type 0} where
  -- a transaction that isn't decided leaves its seat as it was. One that is, at a site that lost
  -- its pledge, counts
  abbrev pub IsStop : (Ending → Type 0) → Active → Seat L → Seat L → Stop → Type 0
  IsStop decided active old new (Undecided fault) = SameSeat old new
  IsStop decided active old new (Lost verdict site) = decided verdict
      × CountsLoss verdict active site old new
