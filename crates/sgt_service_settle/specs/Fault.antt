-- Why a run isn't settled.
use Rattle.std.specs.Prelude.{◌≡◌, ◌≢◌, ◌-◌, ◌<◌, ◌≤◌, ℕ, List, length, Contains, Some, slice_get}
use Rattle.sgt_site.specs.State.{SiteState}
use Rattle.sgt_workers.specs.declared.ticket.Ticket.{Ticket}
use Rattle.sgt_workers.specs.declared.ticket.Done.{Done}
use Rattle.sgt_certifier.specs.declared.call.Call.{Call}
use Rattle.sgt_certifier.specs.declared.call.CertifierFault.{CertifierFault}
use Rattle.sgt_certifier.specs.declared.call.CertifierFault.TheVariants.{ActiveLeft}
use Rattle.sgt_service_settle.specs.Settled.{Run, AreTickets, AreCountedAt, begins_in, tickets_of, count_of, IsGood, Rises, IsSettledAt}
use Rattle.sgt_service_agreement.specs.Agreed.{VersionsAgree}
use Rattle.sgt_service_agreement.specs.declared.fault.ServiceFault.{ServiceFault}
use Rattle.sgt_service_agreement.specs.declared.fault.ServiceFault.TheVariants as fault

-- the history doesn't begin as many transactions as there are tickets: so many more
abbrev pub LeavesActive : List Call → List Done → CertifierFault → Type 0
LeavesActive history dones (ActiveLeft n) = (begins_in history ≢ length (tickets_of dones))
    × (n ≡ begins_in history - length (tickets_of dones))
LeavesActive history dones _ = ⊥

-- something isn't as it should be, at the fault's number. The others are no matter of a run that is
-- over
abbrev pub Shows : Run → ServiceFault → Type 0
Shows r (fault.StrayTicket k) =
    (t : Ticket) × Contains (tickets_of r.dones) t × (t.number ≡ k)
    × (IsGood r.certifier.state.rulings t → ⊥)
Shows r (fault.TwoTickets k) = 2 ≤ count_of k (tickets_of r.dones)
Shows r (fault.MissingTicket k) = (k < length r.certifier.state.rulings)
    × (count_of k (tickets_of r.dones) ≡ 0)
Shows r (fault.TicketOrder job) = (d : Done) × Contains r.dones d × (d.job ≡ job) × (Rises d → ⊥)
Shows r (fault.LogDiffers site) = IsSettledAt r site → ⊥
Shows r (fault.VersionsDiffer site) =
    (s : SiteState) × (slice_get r.sites site ≡ Some s) × (VersionsAgree r.certifier.history s → ⊥)
Shows r (fault.Certifier f) = LeavesActive r.certifier.history r.dones f
Shows r _ = ⊥

-- the order in which faults are told
abbrev pub kind_place : ServiceFault → ℕ
kind_place (fault.StrayTicket k) = 1
kind_place (fault.TwoTickets k) = 2
kind_place (fault.MissingTicket k) = 6
kind_place (fault.TicketOrder job) = 8
kind_place (fault.LogDiffers site) = 9
kind_place (fault.VersionsDiffer site) = 10
kind_place (fault.Certifier f) = 11
kind_place _ = 12

abbrev pub fault_at : ServiceFault → ℕ
fault_at (fault.StrayTicket k) = k
fault_at (fault.TwoTickets k) = k
fault_at (fault.MissingTicket k) = k
fault_at (fault.TicketOrder job) = job
fault_at (fault.LogDiffers site) = site
fault_at (fault.VersionsDiffer site) = site
fault_at _ = 0

-- the fault is there, none that is told before it, and none of its kind with a smaller number
pub record IsFirst (r : Run) (f : ServiceFault) : Type 0 where
  pub shown : Shows r f
  pub first : (g : ServiceFault) → kind_place g < kind_place f → Shows r g → ⊥
  pub least : (g : ServiceFault) → kind_place g ≡ kind_place f → fault_at g < fault_at f → Shows r g
      → ⊥

-- a site that could not be judged: its number and the entries that were counted there don't tell it
-- to differ, and no site before it
-- differs
pub record IsUnjudged (r : Run) (site : ℕ) : Type 0 where
  pub counted : AreCountedAt r.sites r.counts site
  pub before : (k : ℕ) → k < site → IsSettledAt r k

-- the run is refused so. Want of memory stands in place of a V9 alone: the tickets are the
-- decisions, and a site could not be judged
abbrev pub IsUnsettled : Run → ServiceFault → Type 0
IsUnsettled r fault.Memory = AreTickets r.certifier.state.rulings r.dones
    × ((site : ℕ) × IsUnjudged r site)
IsUnsettled r f = IsFirst r f
