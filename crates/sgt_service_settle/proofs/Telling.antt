-- From what the looks at the tickets found to the fault that is told.
use Rattle.std.proofs.Common.{◌≡◌, ◌⊎◌, ◌∙◌, ◌≤◌, ◌<◌, ℕ, List, [], length, Option, Some, None, refl, sym, ap, subst, arith, inl, inr, Contains, All, get_or}
use Rattle.std.specs.Prelude.{slice_get, count_by}
use Rattle.std.proofs.lemmas.Bool.{cases_eq, cases_lt}
use Rattle.std.proofs.lemmas.Option.{same_Some, none-some, slice_get_within}
use Rattle.sgt_names.proofs.Places.{All-from_at, Contains-from_at}
use Rattle.sgt_certifier.specs.Certifier.{Ruling, committed, refused, withdrawn, opening}
use Rattle.sgt_certifier.specs.Kept.{rulings_from}
use Rattle.sgt_certifier.specs.declared.call.Call.{Call}
use Rattle.sgt_workers.specs.declared.ticket.Ticket.{Ticket}
use Rattle.sgt_workers.specs.declared.ticket.Done.{Done}
use Rattle.sgt_workers.specs.declared.ticket.Ending.{Ending}
use Rattle.sgt_workers.specs.declared.ticket.Ending.TheVariants.{Committed, Refused, Withdrawn}
use Rattle.sgt_service_settle.specs.Settled.{Run, AreTickets, IsGood, Rises, Tells, tickets_of, count_of}
use Rattle.sgt_service_settle.specs.Fault.{Shows, IsFirst, kind_place, fault_at}
use Rattle.sgt_service_agreement.specs.declared.fault.ServiceFault.{ServiceFault}
use Rattle.sgt_service_agreement.specs.declared.fault.ServiceFault.TheVariants as fault
use Rattle.sgt_service_settle.specs.private.Words.{IsLeastOf}
use Rattle.sgt_service_settle.specs.private.Tickets.{IsRunOf, IsStray, is_decision}
use Rattle.sgt_service_settle.proofs.Ticketing.{many_decisions}
use Rattle.sgt_service_settle.proofs.Tallying.{count_of-some}

-- ---- what isn't wrong is right

ending_or : (a b : Ending) → (a ≡ b) ⊎ (a ≡ b → ⊥)
ending_or Committed Committed = inl refl
ending_or Committed Refused = inr (λ e. absurd cc)
ending_or Committed Withdrawn = inr (λ e. absurd cc)
ending_or Refused Committed = inr (λ e. absurd cc)
ending_or Refused Refused = inl refl
ending_or Refused Withdrawn = inr (λ e. absurd cc)
ending_or Withdrawn Committed = inr (λ e. absurd cc)
ending_or Withdrawn Refused = inr (λ e. absurd cc)
ending_or Withdrawn Withdrawn = inl refl

both_stable : (t : Ticket) (tx : ℕ) (e : Ending) → (((t.tx ≡ tx) × (t.verdict ≡ e) → ⊥) → ⊥)
    → (t.tx ≡ tx) × (t.verdict ≡ e)
both_stable t tx e nn = (
  elim (cases_eq t.tx tx) [ inl same ↦ same | inr other ↦ absurd (nn (λ k. other k.0)) ],
  elim (ending_or t.verdict e) [ inl same ↦ same | inr other ↦ absurd (nn (λ k. other k.1)) ],
)

tells_stable : (t : Ticket) (r : Ruling) → ((Tells t r → ⊥) → ⊥) → Tells t r
tells_stable t (committed tx) nn = both_stable t tx Committed nn
tells_stable t (refused tx walk) nn = both_stable t tx Refused nn
tells_stable t (withdrawn tx) nn = both_stable t tx Withdrawn nn

good_at : (rulings : List Ruling) (t : Ticket) (o : Option Ruling) → slice_get rulings t.number ≡ o
    → ((IsGood rulings t → ⊥) → ⊥) → IsGood rulings t
good_at rulings t None at nn = absurd (nn (λ good. none-some good.0 (sym at ∙ good.1)))
good_at rulings t (Some r) at nn = (
  r,
  at,
  tells_stable t r
      (λ untold. nn (λ good. untold (subst (Tells t) (same_Some good.0 r (sym good.1 ∙ at)) good.2))),
)

good_stable : (rulings : List Ruling) (t : Ticket) → ((IsGood rulings t → ⊥) → ⊥) → IsGood rulings t
good_stable rulings t nn = good_at rulings t (slice_get rulings t.number) refl nn

rises_stable : (d : Done) → ((Rises d → ⊥) → ⊥) → Rises d
rises_stable d nn i j default lt low =
    elim (cases_lt (get_or d.tickets.items i default).number (get_or d.tickets.items j default).number) [
      | inl below ↦ below
      | inr above ↦ absurd (nn (λ rises. let r = rises i j default lt low in omega (arith, r, above)))
    ]

all_of : {A : Type 0} (P : A → Type 0) (xs : List A) → ((a : A) → Contains xs a → P a) → All P xs
all_of P xs each = All-from_at P xs (λ n a at. each a (Contains-from_at xs n a at))

-- ---- the tickets of a run

abbrev pub NoStray : Run → Type 0
NoStray r = (t : Ticket) → Contains (tickets_of r.dones) t → IsGood r.certifier.state.rulings t

abbrev pub NoTwo : Run → Type 0
NoTwo r = (k : ℕ) → count_of k (tickets_of r.dones) ≤ 1

abbrev pub NoMissing : Run → Type 0
NoMissing r = (k : ℕ) → k < length r.certifier.state.rulings → 1 ≤ count_of k (tickets_of r.dones)

abbrev pub NoDisorder : Run → Type 0
NoDisorder r = (d : Done) → Contains r.dones d → Rises d

pub no_stray : (r : Run) → IsLeastOf (λ (t : Ticket). t.number) (λ (t : Ticket). IsGood r.certifier.state.rulings t
    → ⊥) (tickets_of r.dones) None → NoStray r
no_stray r none t c = good_stable r.certifier.state.rulings t (none t c)

pub no_disorder : (r : Run) → IsLeastOf (λ (d : Done). d.job) (λ (d : Done). Rises d → ⊥) r.dones None → NoDisorder r
no_disorder r none d c = rises_stable d (none d c)

pub no_two : (r : Run) → NoStray r
    → ((k : ℕ) → k < length r.certifier.state.rulings → count_of k (tickets_of r.dones) ≤ 1) → NoTwo r
no_two r good few k =
    elim (cases_lt 1 (count_of k (tickets_of r.dones))) [
      | inl many ↦
          let t = count_of-some k (tickets_of r.dones) (omega (arith, many)) in
          let g = good t.0 t.1 in
          let low = slice_get_within r.certifier.state.rulings t.0.number g.0 g.1 in
          let le = few k (omega (arith, low, t.2)) in
          absurd (omega (arith, many, le))
      | inr few_enough ↦ few_enough
    ]

pub are_tickets : (r : Run) → NoStray r → NoTwo r → NoMissing r → NoDisorder r
    → AreTickets r.certifier.state.rulings r.dones
are_tickets r good two missing order = record {
  good = all_of (IsGood r.certifier.state.rulings) (tickets_of r.dones) good;
  once = λ k low. let a = two k in let b = missing k low in omega (arith, a, b);
  rising = all_of Rises r.dones order;
}

-- none is told before
before_two : (r : Run) → NoStray r → (g : ServiceFault) → kind_place g < 2 → Shows r g → ⊥
before_two r good (fault.StrayTicket k) lt shown = shown.3 (good shown.0 shown.1)
before_two r good (fault.TwoTickets k) lt shown = absurd (omega (arith, lt))
before_two r good (fault.MissingTicket k) lt shown = absurd (omega (arith, lt))
before_two r good (fault.TicketOrder job) lt shown = absurd (omega (arith, lt))
before_two r good (fault.LogDiffers site) lt shown = absurd (omega (arith, lt))
before_two r good (fault.VersionsDiffer site) lt shown = absurd (omega (arith, lt))
before_two r good (fault.Certifier f) lt shown = absurd (omega (arith, lt))
before_two r good _ lt shown = absurd shown

before_missing : (r : Run) → NoStray r → NoTwo r → (g : ServiceFault) → kind_place g < 6 → Shows r g → ⊥
before_missing r good two (fault.StrayTicket k) lt shown = shown.3 (good shown.0 shown.1)
before_missing r good two (fault.TwoTickets k) lt shown = let le = two k in absurd (omega (arith, le, shown))
before_missing r good two (fault.MissingTicket k) lt shown = absurd (omega (arith, lt))
before_missing r good two (fault.TicketOrder job) lt shown = absurd (omega (arith, lt))
before_missing r good two (fault.LogDiffers site) lt shown = absurd (omega (arith, lt))
before_missing r good two (fault.VersionsDiffer site) lt shown = absurd (omega (arith, lt))
before_missing r good two (fault.Certifier f) lt shown = absurd (omega (arith, lt))
before_missing r good two _ lt shown = absurd shown

before_order : (r : Run) → NoStray r → NoTwo r → NoMissing r → (g : ServiceFault) → kind_place g < 8 → Shows r g → ⊥
before_order r good two missing (fault.StrayTicket k) lt shown = shown.3 (good shown.0 shown.1)
before_order r good two missing (fault.TwoTickets k) lt shown = let le = two k in absurd (omega (arith, le, shown))
before_order r good two missing (fault.MissingTicket k) lt shown = let le = missing k shown.0 in
    absurd (omega (arith, le, shown.1))
before_order r good two missing (fault.TicketOrder job) lt shown = absurd (omega (arith, lt))
before_order r good two missing (fault.LogDiffers site) lt shown = absurd (omega (arith, lt))
before_order r good two missing (fault.VersionsDiffer site) lt shown = absurd (omega (arith, lt))
before_order r good two missing (fault.Certifier f) lt shown = absurd (omega (arith, lt))
before_order r good two missing _ lt shown = absurd shown

-- none of the kind has a smaller number
none_before : (r : Run) (g : ServiceFault) → kind_place g < 1 → Shows r g → ⊥
none_before r (fault.StrayTicket j) lt shown = absurd (omega (arith, lt))
none_before r (fault.TwoTickets j) lt shown = absurd (omega (arith, lt))
none_before r (fault.MissingTicket j) lt shown = absurd (omega (arith, lt))
none_before r (fault.TicketOrder j) lt shown = absurd (omega (arith, lt))
none_before r (fault.LogDiffers j) lt shown = absurd (omega (arith, lt))
none_before r (fault.VersionsDiffer j) lt shown = absurd (omega (arith, lt))
none_before r (fault.Certifier f) lt shown = absurd (omega (arith, lt))
none_before r _ lt shown = absurd shown

least_stray : (r : Run) (k : ℕ)
    → ((t : Ticket) → Contains (tickets_of r.dones) t → (IsGood r.certifier.state.rulings t → ⊥) → k ≤ t.number)
    → (g : ServiceFault) → kind_place g ≡ 1 → fault_at g < k → Shows r g → ⊥
least_stray r k least (fault.StrayTicket j) same lt shown = let le = least shown.0 shown.1 shown.3 in
    omega (arith, le, shown.2, lt)
least_stray r k least (fault.TwoTickets j) same lt shown = absurd (omega (arith, same))
least_stray r k least (fault.MissingTicket j) same lt shown = absurd (omega (arith, same))
least_stray r k least (fault.TicketOrder j) same lt shown = absurd (omega (arith, same))
least_stray r k least (fault.LogDiffers j) same lt shown = absurd (omega (arith, same))
least_stray r k least (fault.VersionsDiffer j) same lt shown = absurd (omega (arith, same))
least_stray r k least (fault.Certifier f) same lt shown = absurd (omega (arith, same))
least_stray r k least _ same lt shown = absurd shown

least_two : (r : Run) (k : ℕ) → ((j : ℕ) → j < k → count_of j (tickets_of r.dones) ≤ 1) → (g : ServiceFault)
    → kind_place g ≡ 2 → fault_at g < k → Shows r g → ⊥
least_two r k least (fault.StrayTicket j) same lt shown = absurd (omega (arith, same))
least_two r k least (fault.TwoTickets j) same lt shown = let le = least j lt in omega (arith, le, shown)
least_two r k least (fault.MissingTicket j) same lt shown = absurd (omega (arith, same))
least_two r k least (fault.TicketOrder j) same lt shown = absurd (omega (arith, same))
least_two r k least (fault.LogDiffers j) same lt shown = absurd (omega (arith, same))
least_two r k least (fault.VersionsDiffer j) same lt shown = absurd (omega (arith, same))
least_two r k least (fault.Certifier f) same lt shown = absurd (omega (arith, same))
least_two r k least _ same lt shown = absurd shown

least_missing : (r : Run) (k : ℕ) → ((j : ℕ) → j < k → 1 ≤ count_of j (tickets_of r.dones)) → (g : ServiceFault)
    → kind_place g ≡ 6 → fault_at g < k → Shows r g → ⊥
least_missing r k least (fault.StrayTicket j) same lt shown = absurd (omega (arith, same))
least_missing r k least (fault.TwoTickets j) same lt shown = absurd (omega (arith, same))
least_missing r k least (fault.MissingTicket j) same lt shown = let le = least j lt in omega (arith, le, shown.1)
least_missing r k least (fault.TicketOrder j) same lt shown = absurd (omega (arith, same))
least_missing r k least (fault.LogDiffers j) same lt shown = absurd (omega (arith, same))
least_missing r k least (fault.VersionsDiffer j) same lt shown = absurd (omega (arith, same))
least_missing r k least (fault.Certifier f) same lt shown = absurd (omega (arith, same))
least_missing r k least _ same lt shown = absurd shown

least_unordered : (r : Run) (k : ℕ) → ((d : Done) → Contains r.dones d → (Rises d → ⊥) → k ≤ d.job)
    → (g : ServiceFault) → kind_place g ≡ 8 → fault_at g < k → Shows r g → ⊥
least_unordered r k least (fault.StrayTicket j) same lt shown = absurd (omega (arith, same))
least_unordered r k least (fault.TwoTickets j) same lt shown = absurd (omega (arith, same))
least_unordered r k least (fault.MissingTicket j) same lt shown = absurd (omega (arith, same))
least_unordered r k least (fault.TicketOrder j) same lt shown = let le = least shown.0 shown.1 shown.3 in
    omega (arith, le, shown.2, lt)
least_unordered r k least (fault.LogDiffers j) same lt shown = absurd (omega (arith, same))
least_unordered r k least (fault.VersionsDiffer j) same lt shown = absurd (omega (arith, same))
least_unordered r k least (fault.Certifier f) same lt shown = absurd (omega (arith, same))
least_unordered r k least _ same lt shown = absurd shown

pub before_sites : (r : Run) → NoStray r → NoTwo r → NoMissing r → NoDisorder r → (g : ServiceFault)
    → kind_place g < 9 → Shows r g → ⊥
before_sites r good two missing order (fault.StrayTicket j) lt shown = shown.3 (good shown.0 shown.1)
before_sites r good two missing order (fault.TwoTickets j) lt shown = let le = two j in
    absurd (omega (arith, le, shown))
before_sites r good two missing order (fault.MissingTicket j) lt shown = let le = missing j shown.0 in
    absurd (omega (arith, le, shown.1))
before_sites r good two missing order (fault.TicketOrder j) lt shown = shown.3 (order shown.0 shown.1)
before_sites r good two missing order (fault.LogDiffers j) lt shown = absurd (omega (arith, lt))
before_sites r good two missing order (fault.VersionsDiffer j) lt shown = absurd (omega (arith, lt))
before_sites r good two missing order (fault.Certifier f) lt shown = absurd (omega (arith, lt))
before_sites r good two missing order _ lt shown = absurd shown

-- ---- the fault that is told

pub first_stray_told : (r : Run) (k : ℕ)
    → IsLeastOf (λ (t : Ticket). t.number) (λ (t : Ticket). IsGood r.certifier.state.rulings t
    → ⊥) (tickets_of r.dones) (Some k) → IsFirst r (fault.StrayTicket k)
first_stray_told r k least = record {
  shown = (least.0.0, least.0.1, least.0.2, least.0.3);
  first = none_before r;
  least = least_stray r k (λ t c stray. least.1 t c stray);
}

pub first_two_told : (r : Run) (k : ℕ) → NoStray r → 2 ≤ count_of k (tickets_of r.dones)
    → ((j : ℕ) → j < k → count_of j (tickets_of r.dones) ≤ 1) → IsFirst r (fault.TwoTickets k)
first_two_told r k good two least = record { shown = two; first = before_two r good; least = least_two r k least }

pub first_missing_told : (r : Run) (k : ℕ) → NoStray r → NoTwo r → k < length r.certifier.state.rulings
    → count_of k (tickets_of r.dones) ≡ 0 → ((j : ℕ) → j < k → 1 ≤ count_of j (tickets_of r.dones))
    → IsFirst r (fault.MissingTicket k)
first_missing_told r k good two low none least = record {
  shown = (low, none);
  first = before_missing r good two;
  least = least_missing r k least;
}

pub first_unordered_told : (r : Run) (k : ℕ) → NoStray r → NoTwo r → NoMissing r
    → IsLeastOf (λ (d : Done). d.job) (λ (d : Done). Rises d → ⊥) r.dones (Some k) → IsFirst r (fault.TicketOrder k)
first_unordered_told r k good two missing least = record {
  shown = (least.0.0, least.0.1, least.0.2, least.0.3);
  first = before_order r good two missing;
  least = least_unordered r k (λ d c not_so. least.1 d c not_so);
}

-- ---- from the history and the Dones to the run

pub stray_of : (r : Run) (history : List Call) (dones : List Done) (k : Option ℕ) → IsRunOf r history dones
    → IsLeastOf (λ (t : Ticket). t.number) (IsStray history) (tickets_of dones) k
    → IsLeastOf (λ (t : Ticket). t.number) (λ (t : Ticket). IsGood r.certifier.state.rulings t
    → ⊥) (tickets_of r.dones) k
stray_of r history dones k is least =
    subst (λ ds. IsLeastOf (λ (t : Ticket). t.number) (λ (t : Ticket). IsGood r.certifier.state.rulings t
    → ⊥) (tickets_of ds) k) (sym is.answers)
    (subst (λ rs. IsLeastOf (λ (t : Ticket). t.number) (λ (t : Ticket). IsGood rs t → ⊥) (tickets_of dones) k)
    (sym is.told) least)

pub order_of : (r : Run) (history : List Call) (dones : List Done) (k : Option ℕ) → IsRunOf r history dones
    → IsLeastOf (λ (d : Done). d.job) (λ (d : Done). Rises d → ⊥) dones k
    → IsLeastOf (λ (d : Done). d.job) (λ (d : Done). Rises d → ⊥) r.dones k
order_of r history dones k is least = subst (λ ds. IsLeastOf (λ (d : Done). d.job) (λ (d : Done). Rises d → ⊥) ds k)
    (sym is.answers) least

pub count_in_run : (r : Run) (history : List Call) (dones : List Done) (k : ℕ) → IsRunOf r history dones
    → count_of k (tickets_of r.dones) ≡ count_of k (tickets_of dones)
count_in_run r history dones k is = ap (λ ds. count_of k (tickets_of ds)) is.answers

pub decisions_of_run : (r : Run) (history : List Call) (dones : List Done) → IsRunOf r history dones
    → length r.certifier.state.rulings ≡ count_by is_decision history
decisions_of_run r history dones is = ap length is.told ∙ many_decisions history

-- a run of this history and these Dones
abbrev pub run_of : List Call → List Done → Run
run_of history dones = record {
  certifier = record {
    state = record opening { rulings = rulings_from 0 0 history };
    history = history;
    expected =
        [];
  };
  sites = [];
  counts = [];
  dones = dones;
}

pub is_run_of : (history : List Call) (dones : List Done) → IsRunOf (run_of history dones) history dones
is_run_of history dones = record { told = refl; answers = refl }
