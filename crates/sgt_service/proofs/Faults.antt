-- The faults of the calls that a worker makes.
use Rattle.std.proofs.Common.{◌≡◌, ◌+◌, ℕ, List, inl, inr, Some, None, Option, Result, Ok, Err, OnOk, IfErr, sym, subst, ◌∙◌, ◌≢◌}
use Rattle.std.specs.Prelude.{MatchResult}
use Rattle.sgt_names.specs.Name.{Name}
use Rattle.sgt_service_agreement.specs.declared.fault.ServiceFault.{ServiceFault}
use Rattle.sgt_service_agreement.specs.declared.fault.ServiceFault.TheVariants as fault
use Rattle.sgt_site.specs.declared.fault.SiteFault.TheVariants as site
use Rattle.sgt_certifier.specs.Kept.{Kept}
use Rattle.sgt_workers.specs.declared.ticket.Done.{Done}
use Rattle.sgt_workers.specs.declared.ticket.Ending.{Ending}
use Rattle.sgt_service_locks.specs.Refused.{IsOfBegin, IsOfCall, IsOfChange, IsOfCommit, IsOfRead, IsOfWithdraw, RefusesItem}
use Rattle.sgt_service_locks.specs.Seats.{IsBack}
use Rattle.sgt_service_locks.specs.declared.active.Active.{Active}
use Rattle.sgt_service_locks.specs.declared.active.Back.{Back}
use Rattle.sgt_service_locks.specs.declared.seat.Seat.{Seat}
use Rattle.sgt_service_settle.specs.Settled.{AreTickets, Run}
use Rattle.sgt_service_settle.specs.Fault.{IsUnsettled}
use Rattle.sgt_service.specs.Bundle.{IsToldAlone}
use Rattle.sgt_service.specs.Operations.{IsOfOperation}
use Rattle.sgt_service.specs.Tries.{IsStopped}
pub use Rattle.sgt_service_locks.proofs.Faults.{commit_of_call, withdraw_of_call}

pub item_of_change : (names : List (List Name)) (s : ℕ) (x : Name) (f : ServiceFault) → RefusesItem names s x f
    → IsOfChange f
item_of_change names s x (fault.Site site.UnknownItem) r = tt
item_of_change names s x fault.Memory r = tt
item_of_change names s x _ r = absurd r

pub item_of_operation : (names : List (List Name)) (s : ℕ) (x : Name) (f : ServiceFault) → RefusesItem names s x f
    → IsOfOperation f
item_of_operation names s x f r = inr (item_of_change names s x f r)

-- a read, and a change
pub read_of_operation : (f : ServiceFault) → IsOfRead f → IsOfOperation f
read_of_operation f h = inl h

pub change_of_operation : (f : ServiceFault) → IsOfChange f → IsOfOperation f
change_of_operation f h = inr h

-- each is a fault of some call
pub begin_of_call : (f : ServiceFault) → IsOfBegin f → IsOfCall f
begin_of_call f h = inl h

pub operation_of_call : (f : ServiceFault) → IsOfOperation f → IsOfCall f
operation_of_call f h = elim h [ inl read ↦ inr (inl read) | inr change ↦ inr (inr (inl change)) ]

-- what the tickets tell, where there is no memory for the sites
pub alone_told : {A : Type 0} (c : Kept) (dones : List Done) (told : Result A ServiceFault) (f : ServiceFault)
    → OnOk told (AreTickets c.state.rulings dones)
    → IfErr told (λ g. (r : Run) → r.certifier ≡ c → r.dones ≡ dones → IsUnsettled r g)
    → MatchResult told (λ done. f ≡ fault.Memory) (λ g. f ≡ g)
    → IsToldAlone c dones f
alone_told c dones (Ok done) f tickets each is = inl (is, tickets)
alone_told c dones (Err g) f tickets each is =
    inr (subst (λ (k : ServiceFault). (r : Run) → r.certifier ≡ c → r.dones ≡ dones → IsUnsettled r k) (sym is) each)

-- and want of memory is told of good tickets alone
abbrev pub fault_in : {A : Type 0} → Result A ServiceFault → ServiceFault
fault_in (Ok done) = fault.Memory
fault_in (Err f) = f

pub memory_told : {A : Type 0} (c : Kept) (dones : List Done) (told : Result A ServiceFault) (f : ServiceFault)
    → OnOk told (AreTickets c.state.rulings dones)
    → IfErr told (λ g. g ≢ fault.Memory) → MatchResult told (λ done. f ≡ fault.Memory) (λ g. f ≡ g)
    → f ≡ fault.Memory → AreTickets c.state.rulings dones
memory_told c dones (Ok done) f tickets not is want = tickets
memory_told c dones (Err g) f tickets not is want = absurd (not (sym is ∙ want))

module _ {L : Type 0} where
  stopped_by : (decided : Ending → Type 0) (active : Active) (old mid new : Seat L) (o : Option Active)
      (f : ServiceFault) → mid.share ≡ old.share
      → IsBack decided active mid new (record { active = o; fault = f }) → IsStopped old new f
  stopped_by decided active old mid new None f same h = inr (h.1, h.3, h.4.1.1 ∙ (λ i. (same i).amount + 1))
  stopped_by decided active old mid new (Some a) f same h = inl (h.1.0 ∙ same)

  -- what comes back of a transaction that began and read at the seat
  pub back_stopped : (decided : Ending → Type 0) (active : Active) (old mid new : Seat L) (b : Back)
      → mid.share ≡ old.share
      → IsBack decided active mid new b → IsStopped old new b.fault
  back_stopped decided active old mid new b same h = stopped_by decided active old mid new b.active b.fault same h

  parts_by : (decided : Ending → Type 0) (active : Active) (old mid new : Seat L) (o : Option Active)
      (f : ServiceFault) → mid.share ≡ old.share
      → IsBack decided active mid new (record { active = o; fault = f }) → new.share.parts ≡ old.share.parts
  parts_by decided active old mid new None f same h = h.4.1.0 ∙ (λ t. (same t).parts)
  parts_by decided active old mid new (Some a) f same h = λ t. ((h.1.0 ∙ same) t).parts

  pub back_parts : (decided : Ending → Type 0) (active : Active) (old mid new : Seat L) (b : Back)
      → mid.share ≡ old.share
      → IsBack decided active mid new b → new.share.parts ≡ old.share.parts
  back_parts decided active old mid new b same h = parts_by decided active old mid new b.active b.fault same h
