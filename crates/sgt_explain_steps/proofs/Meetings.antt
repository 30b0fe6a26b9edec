-- Entries of two transactions, and the steps of a cycle.
use Rattle.std.proofs.Common.{◌≡◌, ◌≢◌, ◌⊎◌, inl, inr, Bool, true, false, IsTrue, ℕ, zero, suc, ◌+◌, ◌-◌, ◌<◌, ◌≤◌, List, [], ◌∷◌, ◌++◌, length, take, Option, Some, None, refl, sym, ap, ◌∙◌, subst, arith, All, Any, AllPairs, Contains}
use Rattle.std.specs.Prelude.{slice_get, option_map}
use Rattle.std.proofs.lemmas.Bool.{false≢true, cases_order}
use Rattle.std.proofs.lemmas.List.Quantifiers.{all_pairs_push}
use Rattle.std.proofs.lemmas.Option.{same_Some, none-some, slice_get_within, slice_get_past, slice_get-map}
use Rattle.std.proofs.lemmas.List.{length-map}
use Rattle.sgt_names.proofs.Lists.{Any_at}
use Rattle.sgt_names.proofs.Places.{All_at, AllPairs_at, Contains_at, slice_get-take, slice_get-take_at}
use Rattle.sgt_names.specs.Name.{Name}
use Rattle.sgt_names.specs.Entry.{tx_of, is_increment, IsIncrement, Clash}
use Rattle.sgt_names.specs.Log.{Conflicts}
use Rattle.sgt_names.specs.declared.entry.Entry.{Entry}
use Rattle.sgt_names.specs.declared.entry.Kind.{Kind}
use Rattle.sgt_names.specs.declared.entry.Kind.TheVariants.{Wr, Rw, Ww}
use Rattle.sgt_bundle.specs.Certificate.{stops, IsCycle}
use Rattle.sgt_bundle.specs.declared.certificate.Decision.{Decision}
use Rattle.sgt_bundle.specs.declared.certificate.Step.{Step}
use Rattle.sgt_explain_lines.specs.Values.{entries_of}
use Rattle.sgt_explain_lines.specs.declared.section.Logged.{Logged as LoggedEntry}
use Rattle.sgt_explain_steps.specs.Told.{begins_with_read, ends_with_read}
use Rattle.sgt_explain_steps.specs.Unmet.{Does, ShowsOwn, StandsBefore, AreMisfit, StepsTo}

-- ---- no conflict among entries

at-entry : (ls : List LoggedEntry) (p : ℕ) (e : Entry) → slice_get (entries_of ls) p ≡ Some e
    → (l : LoggedEntry) × (slice_get ls p ≡ Some l) × (l.entry ≡ e)
at-entry [] p e at = absurd (none-some e at)
at-entry (l ∷ ls) zero e at = (l, refl, same_Some l.entry e at)
at-entry (l ∷ ls) (suc p) e at = at-entry ls p e at

-- none of the entries before an entry of the transaction, among so many, is to it otherwise than R
-- says
abbrev pub NonePaired : (R : Entry → Entry → Type 0) → ℕ → List LoggedEntry → ℕ → Type 0
NonePaired R to entries upto = (q : ℕ) (f : LoggedEntry) → q < upto → slice_get entries q ≡ Some f → tx_of f.entry ≡ to
    → All (λ (l : LoggedEntry). R l.entry f.entry) (take q entries)

-- of one entry more
pub none-more : (R : Entry → Entry → Type 0) (to : ℕ) (entries : List LoggedEntry) (place : ℕ) (here : LoggedEntry)
    → slice_get entries place ≡ Some here
    → NonePaired R to entries place
    → (tx_of here.entry ≡ to → All (λ (l : LoggedEntry). R l.entry here.entry) (take place entries))
    → NonePaired R to entries (place + 1)
none-more R to entries place here there below last q f less at is =
    elim (cases_order q place) [
      | inl same ↦ let is_here : f ≡ here = same_Some f here (sym at ∙ ap (slice_get entries) same ∙ there) in
          subst (λ n. All (λ (l : LoggedEntry). R l.entry f.entry) (take n entries)) (sym same)
          (subst (λ (g : LoggedEntry). All (λ (l : LoggedEntry). R l.entry g.entry) (take place entries)) (sym is_here)
          (last (ap (λ (g : LoggedEntry). tx_of g.entry) (sym is_here) ∙ is)))
      | inr (inl before) ↦ below q f before at is
      | inr (inr behind) ↦ absurd (omega (arith, less, behind))
    ]

-- then they have no conflict of a kind that R excludes
pub none-in : (R : Entry → Entry → Type 0) (entries : List LoggedEntry) (kind : Kind) (x : Name) (from to : ℕ)
    → ((e f : Entry) → R e f → tx_of e ≡ from → Clash kind x e f → ⊥) → NonePaired R to entries (length entries)
    → Conflicts (entries_of entries) kind x from to → ⊥
none-in R entries kind x from to excludes none k =
    let e = at-entry entries k.p k.e k.first in
    let f = at-entry entries k.q k.f k.second in
    let clash = subst (λ g. Clash kind x g f.0.entry) (sym e.2) (subst (λ g. Clash kind x k.e g) (sym f.2) k.clash) in
    excludes e.0.entry f.0.entry
    (All_at (λ (l : LoggedEntry). R l.entry f.0.entry) (take k.q entries) k.p e.0
    (none k.q f.0 (slice_get_within entries k.q f.0 f.1) f.1 (ap tx_of f.2 ∙ k.to))
    (slice_get-take_at entries k.q k.p e.0 k.before e.1))
    (ap tx_of e.2 ∙ k.from) clash

-- ---- two entries that are no conflict

both : (a b : Bool) → (IsTrue a × IsTrue b) ⊎ (IsTrue a → IsTrue b → ⊥)
both true true = inl (refl, refl)
both true false = inr (λ _ no. false≢true no)
both false b = inr (λ no _. false≢true no)

-- a step's two entries, as far as their kinds go
clash-of : (kind : Kind) (x : Name) (e f : Entry) → Does (begins_with_read kind) x e → Does (ends_with_read kind) x f
    → (IsIncrement e × IsIncrement f) ⊎ Clash kind x e f
clash-of Wr x e f own other = inr (own, other)
clash-of Rw x e f own other = inr (own, other)
clash-of Ww x e f own other = elim (both (is_increment e) (is_increment f)) [
  | inl adds ↦ inl adds
  | inr apart ↦ inr (own, other, apart)
]

entry-at : (ls : List LoggedEntry) (p : ℕ) (l : LoggedEntry) → slice_get ls p ≡ Some l
    → slice_get (entries_of ls) p ≡ Some l.entry
entry-at ls p l at = slice_get-map (λ (m : LoggedEntry). m.entry) ls p
    ∙ ap (option_map (λ (m : LoggedEntry). m.entry)) at

-- an entry before another one of the transaction that the step leads to, and in conflict with it as the step says
pub conflict-there : (entries : List LoggedEntry) (from : ℕ) (step : Step) (place : ℕ) (second : LoggedEntry)
    → from ≢ step.to → slice_get entries place ≡ Some second
    → tx_of second.entry ≡ step.to
    → Any (λ (l : LoggedEntry). StepsTo from step l.entry second.entry) (take place entries)
    → Conflicts (entries_of entries) step.label.kind step.label.item from step.to
conflict-there entries from step place second apart at to among =
    let one = Any_at (λ (l : LoggedEntry). StepsTo from step l.entry second.entry) (take place entries) among in
    let there = slice_get-take entries place one.0 one.1 one.2 in
    record {
      p = one.0;
      q = place;
      e = one.1.entry;
      f = second.entry;
      before = there.0;
      first = entry-at entries one.0 one.1 there.1;
      second = entry-at entries place second at;
      from = one.3.0;
      to = to;
      apart = apart;
      clash = one.3.1;
    }

module _ (entries : List LoggedEntry) (from : ℕ) (step : Step) (apart : from ≢ step.to)
    (broken : Conflicts (entries_of entries) step.label.kind step.label.item from step.to
    → ⊥) (one other : LoggedEntry) (p q : ℕ)
    (at : slice_get entries p ≡ Some one) (at_other : slice_get entries q ≡ Some other) (own : tx_of one.entry ≡ from)
    (its : tx_of other.entry ≡ step.to) where
  same-place : p ≡ q → ⊥
  same-place e =
      let same : one ≡ other = same_Some one other (sym at ∙ ap (slice_get entries) e ∙ at_other) in
      apart (sym own ∙ ap (λ (l : LoggedEntry). tx_of l.entry) same ∙ its)

  in-order : p < q → Clash step.label.kind step.label.item one.entry other.entry → ⊥
  in-order before clash = broken (record {
    p = p;
    q = q;
    e = one.entry;
    f = other.entry;
    before = before;
    first = entry-at entries p one at;
    second = entry-at entries q other at_other;
    from = own;
    to = its;
    apart = apart;
    clash = clash;
  })

  placed : Clash step.label.kind step.label.item one.entry other.entry → StandsBefore entries other one
  placed clash = elim (cases_order p q) [
    | inl same ↦ absurd (same-place same)
    | inr (inl before) ↦ absurd (in-order before clash)
    | inr (inr behind) ↦ record { p = q; q = p; first = at_other; second = at; before = behind }
  ]

pub are-misfit : (entries : List LoggedEntry) (from : ℕ) (step : Step) (first second : Option LoggedEntry)
    → from ≢ step.to
    → (Conflicts (entries_of entries) step.label.kind step.label.item from step.to → ⊥)
    → ShowsOwn entries from (begins_with_read step.label.kind) step.label.item first
    → ShowsOwn entries step.to (ends_with_read step.label.kind) step.label.item second
    → (one other : LoggedEntry) → first ≡ Some one → second ≡ Some other → AreMisfit entries one other
are-misfit entries from step first second apart broken own its one other is is_other =
    let mine = subst (λ o. ShowsOwn entries from (begins_with_read step.label.kind) step.label.item o) is own in
    let yours = subst (λ o. ShowsOwn entries step.to (ends_with_read step.label.kind) step.label.item o) is_other its in
    let at = Contains_at entries one mine.there.0 in
    let at_other = Contains_at entries other yours.there.0 in
    elim (clash-of step.label.kind step.label.item one.entry other.entry mine.there.2 yours.there.2) [
      | inl adds ↦ inl adds
      | inr clash ↦ inr (placed entries from step apart broken one other at.0 at_other.0 at.1 at_other.1 mine.there.1
          yours.there.1 clash)
    ]

-- an entry before another
pub stands-before : (entries : List LoggedEntry) (place : ℕ) (one other : LoggedEntry)
    → Contains (take place entries) one → slice_get entries place ≡ Some other → StandsBefore entries one other
stands-before entries place one other among at =
    let p = Contains_at (take place entries) one among in
    let there = slice_get-take entries place p.0 one p.1 in
    record { p = p.0; q = place; first = there.1; second = at; before = there.0 }

-- ---- a step of a cycle leads to another transaction

first-apart : (between : List ℕ) (tx b : ℕ) → 1 ≤ length between → All (λ a. a ≢ tx) between
    → slice_get (between ++ tx ∷ []) 0 ≡ Some b → b ≢ tx
first-apart [] tx b long others at = absurd (omega (arith, long))
first-apart (x ∷ xs) tx b long others at = subst (λ c. c ≢ tx) (same_Some x b at) (others 0 0 (omega arith))

module _ (decisions : List Decision) (number tx : ℕ) (walk : List Step) (cycle : IsCycle decisions number tx walk) where
  stops-apart : AllPairs (λ a b. a ≢ b) (stops walk)
  stops-apart =
      subst (AllPairs (λ (a b : ℕ). a ≢ b)) (sym cycle.closed)
      (all_pairs_push (λ a b. a ≢ b) cycle.between tx cycle.distinct cycle.others)

  stop-at : (n : ℕ) (step : Step) → slice_get walk n ≡ Some step → slice_get (stops walk) n ≡ Some step.to
  stop-at n step at = slice_get-map (λ (s : Step). s.to) walk n ∙ ap (option_map (λ (s : Step). s.to)) at

  pub leads-on : (n from : ℕ) (step : Step) → slice_get walk n ≡ Some step → slice_get (tx ∷ stops walk) n ≡ Some from
      → from ≢ step.to
  leads-on zero from step at start = λ same.
      first-apart cycle.between tx step.to cycle.long cycle.others
      (ap (λ (ss : List ℕ). slice_get ss 0) (sym cycle.closed) ∙ stop-at 0 step at)
      (sym same ∙ sym (same_Some tx from start))
  leads-on (suc n) from step at start = AllPairs_at (λ a b. a ≢ b) (stops walk) n (suc n) from step.to stops-apart
      (omega arith) start (stop-at (suc n) step at)

-- ---- for the search

-- the second entry of a conflict is the step's
pub clash-second : (kind : Kind) (x : Name) (e f : Entry) → Clash kind x e f → Does (ends_with_read kind) x f
clash-second Wr x e f clash = clash.1
clash-second Rw x e f clash = clash.1
clash-second Ww x e f clash = clash.1

-- the transaction that a later step starts from
pub start_later : (tx : ℕ) (walk : List Step) (place : ℕ) (s : Step) → 0 < place → slice_get walk (place - 1) ≡ Some s
    → slice_get (tx ∷ stops walk) place ≡ Some s.to
start_later tx walk zero s later at = absurd (omega (arith, later))
start_later tx walk (suc n) s later at =
    let e : suc n - 1 ≡ n = omega arith in
    slice_get-map (λ (t : Step). t.to) walk n ∙ ap (option_map (λ (t : Step). t.to)) (ap (slice_get walk) (sym e) ∙ at)
