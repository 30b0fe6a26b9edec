-- A run that is left of a service, and its bundle.
use Rattle.std.specs.Prelude.{◌≡◌, ◌⊎◌, ℕ, List, length}
use Rattle.std.specs.List.{AllZip}
use Rattle.std.specs.List.Sorted.{IsPermutation, IsNonDecreasingBy}
use Rattle.sgt_names.specs.Log.{names, FinalsAreLegal}
use Rattle.sgt_site.specs.State.{SiteState}
use Rattle.sgt_bundle.specs.Parts.{Parts}
use Rattle.sgt_bundle.specs.declared.bundle.SiteLog.{SiteLog}
use Rattle.sgt_certifier.specs.Certifier.{certificate_of}
use Rattle.sgt_certifier.specs.History.{Replays}
use Rattle.sgt_certifier.specs.Kept.{Kept}
use Rattle.sgt_service_agreement.specs.declared.fault.ServiceFault.{ServiceFault}
use Rattle.sgt_service_agreement.specs.declared.fault.ServiceFault.TheVariants.{Memory}
use Rattle.sgt_workers.specs.Answers.{JobsRise}
use Rattle.sgt_workers.specs.declared.ticket.Done.{Done}
use Rattle.sgt_service_locks.specs.declared.opened.Opened.{Opened}
use Rattle.sgt_service_locks.specs.Guarded.{decision_count}
use Rattle.sgt_service_locks.specs.Together.{parts_of, amount_of, counts_of}
use Rattle.sgt_service_locks.specs.declared.seat.Seat.{Seat}
use Rattle.sgt_service_settle.specs.Settled.{AreKept, AreTickets, Run}
use Rattle.sgt_service_settle.specs.Fault.{IsUnsettled}

-- ---- what is left of a service

-- the same Dones by rising job; those that rise already stay as they are
pub record ArePutInOrder (given found : List Done) : Type 0 where
  pub same : IsPermutation given found
  pub rising : IsNonDecreasingBy (λ d. d.job) found
  pub kept : JobsRise given → found ≡ given

-- what was found behind the locks, and what was told of it
abbrev pub run_of : Opened → List Done → Run
run_of o dones =
    record {
      certifier = o.certifier;
      sites = o.sites.items;
      counts = o.counts.items;
      dones = dones;
    }

-- if these seats have all parts of the ledger, the certifier has as many decisions as their shares
-- together
abbrev pub IsCountedBy : {L : Type 0} → (parts : ℕ) → List (Seat L) → Kept → Type 0
IsCountedBy parts seats c = parts_of seats ≡ parts → decision_count c ≡ amount_of seats

-- the run has these Dones, its decisions are counted by these seats, and so is at each of so many
-- sites what was written there
pub record IsLeftOf {L : Type 0} (sites parts : ℕ) (seats : List (Seat L)) (dones : List Done) (r : Run) : Type 0 where
  pub told : r.dones ≡ dones
  pub many : length r.sites ≡ sites
  pub counted : r.counts ≡ counts_of sites seats
  pub decided : IsCountedBy parts seats r.certifier

-- the certifier and the tickets alone tell the fault, whatever the sites are: it is that of each
-- run with them. Or the tickets are the
-- certifier's decisions, and memory is wanted for the sites
abbrev pub IsToldAlone : Kept → List Done → ServiceFault → Type 0
IsToldAlone c dones f =
    ((f ≡ Memory) × AreTickets c.state.rulings dones)
    ⊎ ((r : Run) → r.certifier ≡ c → r.dones ≡ dones → IsUnsettled r f)

-- what is left isn't settled; or its sites are not known, and its certifier, whose decisions the
-- seats count, tells the fault without them
abbrev pub IsRefused : {L : Type 0} → (sites parts : ℕ) → List (Seat L) → List Done → ServiceFault
    → Type 0
IsRefused sites parts seats dones f =
    ((r : Run) × IsLeftOf sites parts seats dones r × AreKept r × IsUnsettled r f)
    ⊎ ((c : Kept) × IsCountedBy parts seats c × Replays c.history c.state × IsToldAlone c dones f)

-- ---- the bundle

-- the log of the site, with the last value of each of its items
pub record IsLogOf (s : SiteState) (log : SiteLog) : Type 0 where
  pub items : log.items ≡ s.items
  pub entries : log.entries ≡ s.entries
  pub each : names log.finals ≡ names s.items
  pub finals : FinalsAreLegal s.items s.entries log.finals

-- the certificate, and the logs of the sites
pub record IsBundleOf (r : Run) (b : Parts) : Type 0 where
  pub certificate : b.certificate ≡ certificate_of r.certifier.state (length r.sites)
  pub logs : AllZip IsLogOf r.sites b.sites
