-- The whole run: what is settled, and what is told of one that isn't.
use Rattle.std.proofs.Common.{◌≡◌, ◌∙◌, ◌<◌, ℕ, List, All, length, Some, Result, Ok, Err, IfErr, sym, ap, subst, arith}
use Rattle.std.specs.Result.{IsErrAnd}
use Rattle.std.specs.Prelude.{slice_get}
use Rattle.std.proofs.lemmas.List.Elements.{All-contains}
use Rattle.sgt_names.proofs.Places.{All_at}
use Rattle.sgt_site.specs.State.{SiteState}
use Rattle.sgt_certifier.specs.Certifier.{State, opening}
use Rattle.sgt_certifier.specs.History.{Replays}
use Rattle.sgt_certifier.specs.Kept.{rulings_from}
use Rattle.sgt_certifier.specs.declared.call.Call.{Call}
use Rattle.sgt_certifier.specs.declared.call.CertifierFault.{CertifierFault}
use Rattle.sgt_certifier.specs.declared.call.CertifierFault.TheVariants.{ActiveLeft}
use Rattle.sgt_certifier.proofs.Extending.{runs_rulings}
use Rattle.sgt_workers.specs.declared.ticket.Done.{Done}
use Rattle.sgt_service_settle.specs.Settled.{Run, IsSettled, IsSettledAt, AreTickets, IsGood, Rises, begins_in, tickets_of}
use Rattle.sgt_service_settle.specs.Fault.{LeavesActive, Shows, IsFirst, IsUnsettled, kind_place, fault_at}
use Rattle.sgt_service_agreement.specs.Agreed.{VersionsAgree}
use Rattle.sgt_service_agreement.specs.declared.fault.ServiceFault.{ServiceFault}
use Rattle.sgt_service_agreement.specs.declared.fault.ServiceFault.TheVariants as fault
use Rattle.sgt_service_settle.proofs.Telling.{NoStray, NoTwo, NoMissing, NoDisorder, no_two, before_sites}

abbrev pub TicketsOf : Run → Type 0
TicketsOf r = AreTickets r.certifier.state.rulings r.dones

good_of : (r : Run) → TicketsOf r → NoStray r
good_of r a t c = All-contains (IsGood r.certifier.state.rulings) (tickets_of r.dones) t a.good c

two_of : (r : Run) → TicketsOf r → NoTwo r
two_of r a = no_two r (good_of r a) (λ k low. let one = a.once k low in omega (arith, one))

missing_of : (r : Run) → TicketsOf r → NoMissing r
missing_of r a k low = let one = a.once k low in omega (arith, one)

order_of : (r : Run) → TicketsOf r → NoDisorder r
order_of r a d c = All-contains Rises r.dones d a.rising c

-- with the tickets right, nothing is told before the sites
pub no_ticket_fault : (r : Run) → TicketsOf r → (g : ServiceFault) → kind_place g < 9 → Shows r g → ⊥
no_ticket_fault r a g lt shown = before_sites r (good_of r a) (two_of r a) (missing_of r a) (order_of r a) g lt shown

none_left : (history : List Call) (dones : List Done) (f : CertifierFault)
    → begins_in history ≡ length (tickets_of dones) → LeavesActive history dones f → ⊥
none_left history dones (ActiveLeft n) same left = left.0 same
none_left history dones _ same left = left

pub settled_shows : (r : Run) (f : ServiceFault) → IsSettled r → Shows r f → ⊥
settled_shows r (fault.StrayTicket k) h shown = no_ticket_fault r h.tickets (fault.StrayTicket k) (omega arith) shown
settled_shows r (fault.TwoTickets k) h shown = no_ticket_fault r h.tickets (fault.TwoTickets k) (omega arith) shown
settled_shows r (fault.MissingTicket k) h shown =
    no_ticket_fault r h.tickets (fault.MissingTicket k) (omega arith) shown
settled_shows r (fault.TicketOrder k) h shown = no_ticket_fault r h.tickets (fault.TicketOrder k) (omega arith) shown
settled_shows r (fault.LogDiffers k) h shown = shown (h.sites k)
settled_shows r (fault.VersionsDiffer k) h shown =
    shown.2 (All_at (VersionsAgree r.certifier.history) r.sites k shown.0 h.versions shown.1)
settled_shows r (fault.Certifier f) h shown = none_left r.certifier.history r.dones f h.begun shown
settled_shows r _ h shown = absurd shown

least_site : (r : Run) (k : ℕ) → ((j : ℕ) → j < k → IsSettledAt r j) → (g : ServiceFault) → kind_place g ≡ 9
    → fault_at g < k → Shows r g → ⊥
least_site r k each (fault.StrayTicket j) same lt shown = absurd (omega (arith, same))
least_site r k each (fault.TwoTickets j) same lt shown = absurd (omega (arith, same))
least_site r k each (fault.MissingTicket j) same lt shown = absurd (omega (arith, same))
least_site r k each (fault.TicketOrder j) same lt shown = absurd (omega (arith, same))
least_site r k each (fault.LogDiffers j) same lt shown = shown (each j lt)
least_site r k each (fault.VersionsDiffer j) same lt shown = absurd (omega (arith, same))
least_site r k each (fault.Certifier f) same lt shown = absurd (omega (arith, same))
least_site r k each _ same lt shown = absurd shown

pub site_told : (r : Run) (k : ℕ) → TicketsOf r → (IsSettledAt r k → ⊥) → ((j : ℕ) → j < k → IsSettledAt r j)
    → IsFirst r (fault.LogDiffers k)
site_told r k tickets unsettled each = record {
  shown = unsettled;
  first = no_ticket_fault r tickets;
  least =
      least_site r k each;
}

before_versions : (r : Run) → TicketsOf r → ((k : ℕ) → IsSettledAt r k) → (g : ServiceFault) → kind_place g < 10
    → Shows r g → ⊥
before_versions r tickets sites (fault.StrayTicket k) lt shown =
    no_ticket_fault r tickets (fault.StrayTicket k) (omega arith) shown
before_versions r tickets sites (fault.TwoTickets k) lt shown =
    no_ticket_fault r tickets (fault.TwoTickets k) (omega arith) shown
before_versions r tickets sites (fault.MissingTicket k) lt shown =
    no_ticket_fault r tickets (fault.MissingTicket k) (omega arith) shown
before_versions r tickets sites (fault.TicketOrder k) lt shown =
    no_ticket_fault r tickets (fault.TicketOrder k) (omega arith) shown
before_versions r tickets sites (fault.LogDiffers k) lt shown = shown (sites k)
before_versions r tickets sites (fault.VersionsDiffer k) lt shown = absurd (omega (arith, lt))
before_versions r tickets sites (fault.Certifier f) lt shown = absurd (omega (arith, lt))
before_versions r tickets sites _ lt shown = absurd shown

least_version : (r : Run) (k : ℕ) → ((j : ℕ) (s : SiteState) → j < k → slice_get r.sites j ≡ Some s
    → VersionsAgree r.certifier.history s) → (g : ServiceFault) → kind_place g ≡ 10 → fault_at g < k → Shows r g → ⊥
least_version r k each (fault.StrayTicket j) same lt shown = absurd (omega (arith, same))
least_version r k each (fault.TwoTickets j) same lt shown = absurd (omega (arith, same))
least_version r k each (fault.MissingTicket j) same lt shown = absurd (omega (arith, same))
least_version r k each (fault.TicketOrder j) same lt shown = absurd (omega (arith, same))
least_version r k each (fault.LogDiffers j) same lt shown = absurd (omega (arith, same))
least_version r k each (fault.VersionsDiffer j) same lt shown = shown.2 (each j shown.0 lt shown.1)
least_version r k each (fault.Certifier f) same lt shown = absurd (omega (arith, same))
least_version r k each _ same lt shown = absurd shown

pub version_told : (r : Run) (k : ℕ) → TicketsOf r → ((j : ℕ) → IsSettledAt r j) → Shows r (fault.VersionsDiffer k)
    → ((j : ℕ) (s : SiteState) → j < k → slice_get r.sites j ≡ Some s → VersionsAgree r.certifier.history s)
    → IsFirst r (fault.VersionsDiffer k)
version_told r k tickets sites shown each = record {
  shown = shown;
  first = before_versions r tickets sites;
  least =
      least_version r k each;
}

before_begins : (r : Run) → TicketsOf r → ((k : ℕ) → IsSettledAt r k)
    → All (VersionsAgree r.certifier.history) r.sites → (g : ServiceFault) → kind_place g < 11 → Shows r g → ⊥
before_begins r tickets sites versions (fault.StrayTicket k) lt shown =
    no_ticket_fault r tickets (fault.StrayTicket k) (omega arith) shown
before_begins r tickets sites versions (fault.TwoTickets k) lt shown =
    no_ticket_fault r tickets (fault.TwoTickets k) (omega arith) shown
before_begins r tickets sites versions (fault.MissingTicket k) lt shown =
    no_ticket_fault r tickets (fault.MissingTicket k) (omega arith) shown
before_begins r tickets sites versions (fault.TicketOrder k) lt shown =
    no_ticket_fault r tickets (fault.TicketOrder k) (omega arith) shown
before_begins r tickets sites versions (fault.LogDiffers k) lt shown = shown (sites k)
before_begins r tickets sites versions (fault.VersionsDiffer k) lt shown =
    shown.2 (All_at (VersionsAgree r.certifier.history) r.sites k shown.0 versions shown.1)
before_begins r tickets sites versions (fault.Certifier f) lt shown = absurd (omega (arith, lt))
before_begins r tickets sites versions _ lt shown = absurd shown

-- where all else is as it should be, it is told how many more were begun
pub begins_told : (r : Run) (f : CertifierFault) → TicketsOf r → ((k : ℕ) → IsSettledAt r k)
    → All (VersionsAgree r.certifier.history) r.sites → LeavesActive r.certifier.history r.dones f
    → IsFirst r (fault.Certifier f)
begins_told r f tickets sites versions left = record {
  shown = left;
  first = before_begins r tickets sites versions;
  least = λ g same lt shown. absurd (omega (arith, lt));
}

-- the rulings of the certifier are those of its calls
pub rulings_told : (history seen : List Call) (s : State) → Replays history s → seen ≡ history
    → s.rulings ≡ rulings_from 0 0 seen
rulings_told history seen s replays same = runs_rulings opening history s replays ∙ ap (rulings_from 0 0) (sym same)

-- so the tickets that are its calls' are its own
pub tickets_told : (history seen : List Call) (s : State) (dones : List Done) → Replays history s → seen ≡ history
    → AreTickets (rulings_from 0 0 seen) dones → AreTickets s.rulings dones
tickets_told history seen s dones replays same tickets =
    subst (λ rs. AreTickets rs dones) (sym (rulings_told history seen s replays same)) tickets

-- want of memory within is that of the check
pub handed_on : {A : Type 0} (o : Result A ServiceFault) (r : Run) → IsErrAnd o (λ f. f ≡ fault.Memory)
    → IsUnsettled r fault.Memory → IfErr o (IsUnsettled r)
handed_on (Ok a) r told h = tt
handed_on (Err f) r told h = subst (IsUnsettled r) (sym told) h
