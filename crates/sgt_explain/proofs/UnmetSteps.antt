-- Which steps of walks are conflicts of the logs, by what was found of their transactions.
use Rattle.std.proofs.Common.{◌≡◌, ◌≢◌, ℕ, zero, suc, ◌+◌, ◌<◌, ◌≤◌, Bool, true, false, List, [], ◌∷◌, ◌++◌, length, take, Option, Some, None, inl, inr, refl, sym, ap, ◌∙◌, subst, arith, All, AllPairs}
use Rattle.std.specs.Prelude.{slice_get, unwrap_or, IfSome, IsSome, IsSomeAnd}
use Rattle.std.proofs.lemmas.Bool.{cases_order, false≢true}
use Rattle.std.proofs.lemmas.Option.{same_Some, none-some, slice_get_within}
use Rattle.sgt_names.proofs.Places.{All_at, AllPairs_at, AllPairs-from_at, slice_get-take_at}
use Rattle.sgt_names.specs.Name.{Name}
use Rattle.sgt_names.specs.Entry.{tx_of, IsIncrement, Reads, Writes, Clash, Repeats}
use Rattle.sgt_names.specs.declared.entry.Entry.{Entry}
use Rattle.sgt_names.specs.declared.entry.Entry.TheVariants as entry
use Rattle.sgt_names.specs.declared.entry.Kind.{Kind}
use Rattle.sgt_names.specs.declared.entry.Kind.TheVariants.{Wr, Rw, Ww}
use Rattle.sgt_notation.specs.declared.SectionLine.{SectionLine}
use Rattle.sgt_notation.specs.declared.SectionLine.TheVariants.{Logged, End}
use Rattle.sgt_bundle.specs.Certificate.{stops}
use Rattle.sgt_bundle.specs.Text.{sections_from}
use Rattle.sgt_bundle.specs.Valid.{IsLogged, AreLogged}
use Rattle.sgt_bundle.specs.declared.certificate.Certificate.{Certificate}
use Rattle.sgt_bundle.specs.declared.certificate.Step.{Step}
use Rattle.sgt_bundle.specs.declared.bundle.SiteLog.{SiteLog}
use Rattle.sgt_audit.specs.declared.faults.Fault.TheVariants as fault
use Rattle.sgt_audit.specs.Faults.{AllKept}
use Rattle.sgt_audit.proofs.SectionLines.{up_to, entries_in-is, around, at_logged}
use Rattle.sgt_audit.proofs.LinePlaces.{cut_append, last_cut}
use Rattle.sgt_explain_lines.specs.Sited.{StandsAt}
use Rattle.sgt_explain_lines.specs.declared.section.Logged.{Logged as LoggedEntry}
use Rattle.sgt_explain_decisions.specs.declared.sought.Found.{Found}
use Rattle.sgt_explain_decisions.specs.declared.sought.Sought.{Sought}
use Rattle.sgt_explain_decisions.specs.Sought.{Key, key_of, found_at, found_of, nothing, begun_by, ended_by, IsFoundIn, AreFoundIn, IsSoughtFor, last_stop}
use Rattle.sgt_explain_decisions.specs.Cycles.{IsShownStep, IsUnshown}
use Rattle.sgt_explain_steps.specs.Told.{begins_with_read, ends_with_read}
use Rattle.sgt_explain_steps.specs.Unmet.{Does}
use Rattle.sgt_explain.proofs.EntryPlaces.{stands-in, log-stands, start}
use Rattle.sgt_explain_steps.proofs.Meetings.{clash-second}

-- ---- what was found of a transaction on an item

-- the transaction's read of the item at the site, or its change
record OwnAt (lines : List SectionLine) (k : Key) (reads : Bool) (l : LoggedEntry) : Type 0 where
  pub stands : StandsAt lines k.0 l
  pub own : tx_of l.entry ≡ k.2
  pub does : Does reads k.1 l.entry

abbrev part : Bool → Found → Option LoggedEntry
part true f = f.read
part false f = f.change

begun-part : (kind : Kind) (f : Found) → begun_by kind f ≡ part (begins_with_read kind) f
begun-part Rw f = refl
begun-part Wr f = refl
begun-part Ww f = refl

ended-part : (kind : Kind) (f : Found) → ended_by kind f ≡ part (ends_with_read kind) f
ended-part Rw f = refl
ended-part Wr f = refl
ended-part Ww f = refl

none-there : (reads : Bool) (l : LoggedEntry) → part reads nothing ≡ Some l → ⊥
none-there true l e = none-some l e
none-there false l e = none-some l e

some-and : (o : Option LoggedEntry) (P : LoggedEntry → Type 0) → IsSomeAnd o P → (g : LoggedEntry) × (o ≡ Some g) × P g
some-and (Some g) P h = (g, refl, h)
some-and None P h = absurd h

part-there : (lines : List SectionLine) (k : Key) (reads : Bool) (o : Option Found) (l : LoggedEntry)
    → IfSome o (IsFoundIn lines (length lines) k)
    → part reads (unwrap_or o nothing) ≡ Some l → OwnAt lines k reads l
part-there lines k true (Some f) l is e =
    let t = subst (λ o. IfSome o (λ m. StandsAt lines k.0 m × (m.line < length lines + 3)
    × ((tx_of m.entry ≡ k.2) × Reads k.1 m.entry))) e is.read.there in
    record { stands = t.0; own = t.2.0; does = t.2.1 }
part-there lines k false (Some f) l is e =
    let t = subst (λ o. IfSome o (λ m. StandsAt lines k.0 m × (m.line < length lines + 3)
    × ((tx_of m.entry ≡ k.2) × Writes k.1 m.entry))) e is.change.there in
    record { stands = t.0; own = t.2.0; does = t.2.1 }
part-there lines k reads None l is e = absurd (none-there reads l e)

within-lines : (lines : List SectionLine) (site : ℕ) (l : LoggedEntry) → StandsAt lines site l
    → l.line < length lines + 3
within-lines lines site l stands =
    let within = slice_get_within lines stands.place (Logged l.entry) stands.there in
    let counted = stands.counted in
    omega (arith, within, counted)

part-last : (lines : List SectionLine) (k : Key) (reads : Bool) (o : Option Found) (l : LoggedEntry)
    → IfSome o (IsFoundIn lines (length lines) k) → IsSome o
    → OwnAt lines k reads l → (g : LoggedEntry) × (part reads (unwrap_or o nothing) ≡ Some g) × (l.line ≤ g.line)
part-last lines k true (Some f) l is some own =
    some-and f.read (λ g. l.line ≤ g.line) (is.read.last l own.stands (within-lines lines k.0 l own.stands) (
      own.own,
      own.does,
    ))
part-last lines k false (Some f) l is some own =
    some-and f.change (λ g. l.line ≤ g.line) (is.change.last l own.stands (within-lines lines k.0 l own.stands)
    (own.own, own.does))
part-last lines k reads None l is some own = absurd (false≢true some)

-- ---- two operations in conflict

reads-plain : (x : Name) (e : Entry) → Reads x e → IsIncrement e → ⊥
reads-plain x (entry.Read tx y v) reads adds = false≢true adds
reads-plain x (entry.Write tx y v) reads adds = absurd reads
reads-plain x (entry.Add tx y v) reads adds = absurd reads
reads-plain x (entry.Want tx y v) reads adds = absurd reads
reads-plain x (entry.WantAdd tx y v) reads adds = absurd reads
reads-plain x (entry.Commit tx) reads adds = absurd reads
reads-plain x (entry.Refuse tx) reads adds = absurd reads
reads-plain x (entry.Withdraw tx) reads adds = absurd reads

clash-apart : (kind : Kind) (x : Name) (e f : Entry) → Clash kind x e f → IsIncrement e → IsIncrement f → ⊥
clash-apart Wr x e f clash adds adds' = reads-plain x f clash.1 adds'
clash-apart Rw x e f clash adds adds' = reads-plain x e clash.0 adds
clash-apart Ww x e f clash adds adds' = clash.2 adds adds'

clash-first : (kind : Kind) (x : Name) (e f : Entry) → Clash kind x e f → Does (begins_with_read kind) x e
clash-first Wr x e f clash = clash.0
clash-first Rw x e f clash = clash.0
clash-first Ww x e f clash = clash.0

clash-of : (kind : Kind) (x : Name) (e f : Entry) → Does (begins_with_read kind) x e → Does (ends_with_read kind) x f
    → (IsIncrement e → IsIncrement f → ⊥) → Clash kind x e f
clash-of Wr x e f own other apart = (own, other)
clash-of Rw x e f own other apart = (own, other)
clash-of Ww x e f own other apart = (own, other, apart)

repeats-of : (reads : Bool) (x : Name) (e f : Entry) → tx_of e ≡ tx_of f → Does reads x e → Does reads x f
    → Repeats x e f
repeats-of true x e f same one other = (same, inl (one, other))
repeats-of false x e f same one other = (same, inr (one, other))

-- ---- the entries of one log

abbrev NoneRepeats : List Entry → Type 0
NoneRepeats entries = AllPairs (λ e f. (x : Name) → Repeats x e f → ⊥) entries

-- lines that keep the rules have no entry twice
pub none-repeats : (second : Bool) (c : Certificate) (before : List SectionLine) → AllKept second c before
    → (logs : List SiteLog) → sections_from 0 logs ≡ before ++ End ∷ []
    → (s : ℕ) (log : SiteLog) → slice_get logs s ≡ Some log → NoneRepeats log.entries
none-repeats second c before kept logs all s log at = AllPairs-from_at (λ (e f : Entry). (x : Name) → Repeats x e f
    → ⊥) log.entries (λ p q e f less at-p at-q.
    let a = around 0 logs s log at in
    let front = up_to a.front (0 + s) log.items (take q log.entries) [] in
    let cut = at_logged a.front a.back (0 + s) log q f at-q in
    let here = in-before front cut.0 f (sym all ∙ a.whole ∙ cut.1) in
    let keeps = (kept.lines front here.0 (Logged f) here.1).1 fault.Twice in
    All_at (λ (g : Entry). (x : Name) → Repeats x g f → ⊥) (take q log.entries) p e
    (subst (All (λ (g : Entry). (x : Name) → Repeats x g f → ⊥))
    (entries_in-is a.front (0 + s) log.items (take q log.entries) []) keeps)
    (slice_get-take_at log.entries q p e less at-p))
  where
    end-logged : (f : Entry) → End ≡ Logged f → ⊥
    end-logged f same = cc

    in-before : (front later : List SectionLine) (f : Entry) → before ++ End ∷ [] ≡ front ++ Logged f ∷ later
        → (rest : List SectionLine) × (before ≡ front ++ Logged f ∷ rest)
    in-before front later f e = elim (cut_append before (End ∷ []) front later (Logged f) e) [
      | inl first ↦ first
      | inr last ↦ (let l = last_cut End last.0 later (Logged f) last.2 in absurd (end-logged f l.0))
    ]

module _ (logs : List SiteLog) (before : List SectionLine) (all : sections_from 0 logs ≡ before ++ End ∷ []) where
  -- an entry is one alone
  one-own : ((s : ℕ) (log : SiteLog) → slice_get logs s ≡ Some log → NoneRepeats log.entries)
      → (k : Key) (reads : Bool) (l g : LoggedEntry) → OwnAt before k reads l → OwnAt before k reads g → l.line ≤ g.line
      → (l.line ≡ g.line) × (l.entry ≡ g.entry)
  one-own once k reads l g one other low =
      let a = stands-in logs before all k.0 l one.stands in
      let b = stands-in logs before all k.0 g other.stands in
      let same : b.log ≡ a.log = same_Some b.log a.log (sym b.at ∙ a.at) in
      let there : slice_get a.log.entries b.j ≡ Some g.entry =
      ap (λ (m : SiteLog). slice_get m.entries b.j) (sym same) ∙ b.there in
      let here = a.line in
      let line = b.line in
      elim (cases_order a.j b.j) [
        | inl even ↦ (
          omega (arith, here, line, even),
          same_Some l.entry g.entry (sym a.there
              ∙ ap (slice_get a.log.entries) even ∙ there),
        )
        | inr (inl less) ↦ absurd (AllPairs_at (λ (e f : Entry). (x : Name) → Repeats x e f
            → ⊥) a.log.entries a.j b.j l.entry g.entry (once k.0 a.log a.at) less a.there there k.1
            (repeats-of reads k.1 l.entry g.entry (one.own ∙ sym other.own) one.does other.does))
        | inr (inr more) ↦ absurd (omega (arith, here, line, low, more))
      ]

  -- a step that is shown is a conflict of the logs
  pub shown-logged : (sought : Sought) (from : ℕ) (step : Step) (one other : LoggedEntry)
      → AreFoundIn before (length before) sought → from ≢ step.to
      → IsShownStep sought from step one other → IsLogged logs from step
  shown-logged sought from step one other found apart shown =
      let kind = step.label.kind in
      let own = part-there before (key_of step from) (begins_with_read kind) (found_at sought (key_of step from)) one
      (found (key_of step from))
      (sym (begun-part kind (found_of sought step from)) ∙ shown.first) in
      let its = part-there before (key_of step step.to) (ends_with_read kind) (found_at sought (key_of step step.to))
      other (found (key_of step step.to))
      (sym (ended-part kind (found_of sought step step.to)) ∙ shown.second) in
      let a = stands-in logs before all step.label.site one own.stands in
      let b = stands-in logs before all step.label.site other its.stands in
      let same : b.log ≡ a.log = same_Some b.log a.log (sym b.at ∙ a.at) in
      let here = a.line in
      let line = b.line in
      let order = shown.order.before in (
        a.log,
        a.at,
        record {
          p = a.j;
          q = b.j;
          e = one.entry;
          f = other.entry;
          before = omega (arith, here, line, order);
          first = a.there;
          second = ap (λ (m : SiteLog). slice_get m.entries b.j) (sym same) ∙ b.there;
          from = own.own;
          to = its.own;
          apart = apart;
          clash = clash-of kind step.label.item one.entry other.entry own.does its.does shown.order.apart;
        },
      )

  -- and one that is sought and not shown is none
  pub unshown-none : ((s : ℕ) (log : SiteLog) → slice_get logs s ≡ Some log → NoneRepeats log.entries)
      → (sought : Sought) (from : ℕ) (step : Step) → AreFoundIn before (length before) sought
      → IsSoughtFor sought from step → IsUnshown sought from step → IsLogged logs from step → ⊥
  unshown-none once sought from step found both unshown (log, at, met) =
      let kind = step.label.kind in
      let site = step.label.site in
      let x = step.label.item in
      let k = key_of step from in
      let m = key_of step step.to in
      let l : LoggedEntry = record { line = start 0 logs site + met.p + 3; entry = met.e } in
      let r : LoggedEntry = record { line = start 0 logs site + met.q + 3; entry = met.f } in
      let own : OwnAt before k (begins_with_read kind) l = record {
        stands = log-stands logs before all site log met.p met.e at met.first;
        own = met.from;
        does = clash-first kind x met.e met.f met.clash;
      } in
      let its : OwnAt before m (ends_with_read kind) r = record {
        stands = log-stands logs before all site log met.q met.f at met.second;
        own = met.to;
        does = clash-second kind x met.e met.f met.clash;
      } in
      let g = part-last before k (begins_with_read kind) (found_at sought k) l (found k) both.0 own in
      let h = part-last before m (ends_with_read kind) (found_at sought m) r (found m) both.1 its in
      let same =
      one-own once k (begins_with_read kind) l g.0 own
      (part-there before k (begins_with_read kind) (found_at sought k) g.0 (found k) g.1) g.2 in
      let same' =
      one-own once m (ends_with_read kind) r h.0 its
      (part-there before m (ends_with_read kind) (found_at sought m) h.0 (found m) h.1) h.2 in
      let less = met.before in
      let line : start 0 logs site + met.p + 3 ≡ g.0.line = same.0 in
      let line' : start 0 logs site + met.q + 3 ≡ h.0.line = same'.0 in
      unshown g.0 h.0 (record {
        first = begun-part kind (found_of sought step from) ∙ g.1;
        second = ended-part kind (found_of sought step step.to) ∙ h.1;
        order = record {
          before = omega (arith, less, line, line');
          apart = subst (λ e. IsIncrement e → IsIncrement h.0.entry
              → ⊥) same.1 (subst (λ f. IsIncrement met.e → IsIncrement f
              → ⊥) same'.1 (clash-apart kind x met.e met.f met.clash));
        };
      })

-- ---- walks

pub start-stop : (tx : ℕ) (walk : List Step) (place : ℕ) (step : Step) → slice_get walk place ≡ Some step
    → slice_get (tx ∷ stops walk) place ≡ Some (last_stop tx (take place walk))
start-stop tx [] place step at = absurd (none-some step at)
start-stop tx (s ∷ walk) zero step at = refl
start-stop tx (s ∷ walk) (suc n) step at = start-stop s.to walk n step at

pub walk-logged : (logs : List SiteLog) (tx : ℕ) (walk : List Step)
    → ((place : ℕ) (step : Step) → slice_get walk place ≡ Some step
    → IsLogged logs (last_stop tx (take place walk)) step) → AreLogged logs tx walk
walk-logged logs tx [] each = tt
walk-logged logs tx (s ∷ walk) each =
    (each 0 s refl, walk-logged logs s.to walk (λ place step at. each (suc place) step at))
