-- What comes back of a transaction without a ticket.
use Rattle.std.proofs.Common.{ℕ, Option, refl}
use Rattle.sgt_certifier.specs.History.{Replays}
use Rattle.sgt_certifier.specs.Kept.{Kept}
use Rattle.sgt_workers.specs.declared.ticket.Ending.{Ending}
use Rattle.sgt_service_agreement.specs.declared.fault.ServiceFault.{ServiceFault}
use Rattle.sgt_service_locks.specs.Refused.{IsOfCall, IsOfWithdraw, IsOfCommit}
use Rattle.sgt_service_locks.specs.Seats.{IsBack}
use Rattle.sgt_service_locks.specs.Stops.{ComesBackBy, IsStop, IsUndecidedBy, back_of}
use Rattle.sgt_service_locks.specs.Undecided.{IsToldOfCommit, IsToldOfWithdraw, IsUncommitted, IsNotWithdrawn}
use Rattle.sgt_service_locks.specs.declared.active.Active.{Active}
use Rattle.sgt_service_locks.specs.declared.seat.Seat.{Seat}
use Rattle.sgt_service_locks.specs.declared.ending.Stop.{Stop}
use Rattle.sgt_service_locks.specs.declared.ending.Stop.TheVariants.{Undecided, Lost}
use Rattle.sgt_service_locks.proofs.Faults.{commit_told, withdraw_told, commit_of_call, withdraw_of_call}

pub stop_back : {L : Type 0} (decided : Ending → Type 0) (active : Active) (old new : Seat L) (stop : Stop)
    → IsStop decided active old new stop → IsUndecidedBy IsOfCall stop
    → IsBack decided active old new (back_of active stop)
stop_back decided active old new (Undecided fault) s why = (refl, s, why)
stop_back decided active old new (Lost verdict site) s why = (verdict, site, s.0, refl, s.1)

-- what holds of why it isn't decided, with a weaker reason
weaker : (P Q : ServiceFault → Type 0) → ((f : ServiceFault) → P f → Q f) → (stop : Stop) → IsUndecidedBy P stop
    → IsUndecidedBy Q stop
weaker P Q q (Undecided fault) why = q fault why
weaker P Q q (Lost verdict site) why = tt

pub commit_stop : (sites : ℕ) (lost : Option ℕ) (k : Kept) (active : Active) (stop : Stop) → Replays k.history k.state
    → IsUndecidedBy (IsUncommitted sites lost k active) stop → IsUndecidedBy (IsToldOfCommit sites active) stop
commit_stop sites lost k active stop replays why =
    weaker (IsUncommitted sites lost k active) (IsToldOfCommit sites active) (λ f u. (lost, k, replays, u)) stop why

pub withdraw_stop : (sites : ℕ) (lost : Option ℕ) (k : Kept) (active : Active) (stop : Stop) → Replays k.history k.state
    → IsUndecidedBy (IsNotWithdrawn sites lost k active) stop → IsUndecidedBy (IsToldOfWithdraw sites active) stop
withdraw_stop sites lost k active stop replays why =
    weaker (IsNotWithdrawn sites lost k active) (IsToldOfWithdraw sites active) (λ f u. (lost, k, replays, u)) stop why

commit_of : (sites : ℕ) (active : Active) (f : ServiceFault) → IsToldOfCommit sites active f → IsOfCommit f
commit_of sites active f told = commit_told sites told.0 told.1 active f told.3

withdraw_of : (sites : ℕ) (active : Active) (f : ServiceFault) → IsToldOfWithdraw sites active f → IsOfWithdraw f
withdraw_of sites active f told = withdraw_told sites told.0 told.1 active f told.3

pub commit_call : (sites : ℕ) (active : Active) (stop : Stop) → IsUndecidedBy (IsToldOfCommit sites active) stop
    → IsUndecidedBy IsOfCall stop
commit_call sites active stop why =
    weaker (IsToldOfCommit sites active) IsOfCall (λ f told. commit_of_call f (commit_of sites active f told)) stop why

pub withdraw_call : (sites : ℕ) (active : Active) (stop : Stop) → IsUndecidedBy (IsToldOfWithdraw sites active) stop
    → IsUndecidedBy IsOfCall stop
withdraw_call sites active stop why =
    weaker (IsToldOfWithdraw sites active) IsOfCall (λ f told. withdraw_of_call f (withdraw_of sites active f told))
    stop why

-- and of the fault that comes back
pub commit_fault : (sites : ℕ) (active : Active) (stop : Stop) → IsUndecidedBy (IsToldOfCommit sites active) stop
    → IsOfCommit (back_of active stop).fault
commit_fault sites active (Undecided fault) why = commit_of sites active fault why
commit_fault sites active (Lost verdict site) why = tt

pub withdraw_fault : (sites : ℕ) (active : Active) (stop : Stop) → IsUndecidedBy (IsToldOfWithdraw sites active) stop
    → IsOfWithdraw (back_of active stop).fault
withdraw_fault sites active (Undecided fault) why = withdraw_of sites active fault why
withdraw_fault sites active (Lost verdict site) why = tt

pub stop_told : (P : ServiceFault → Type 0) (active : Active) (stop : Stop) → IsUndecidedBy P stop
    → ComesBackBy P (back_of active stop)
stop_told P active (Undecided fault) why = why
stop_told P active (Lost verdict site) why = tt
