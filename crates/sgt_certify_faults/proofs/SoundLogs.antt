-- Sections whose lines keep every rule are those of sound logs.
use Rattle.std.proofs.Common.{◌≡◌, ℕ, zero, suc, ◌+◌, ◌<◌, Bool, List, [], ◌∷◌, ◌++◌, take, length, Option, Some, None, refl, sym, ap, ◌∙◌, subst, inl, inr}
use Rattle.std.specs.Prelude.{slice_get}
use Rattle.std.specs.List.{filter_map, cons_option}
use Rattle.std.proofs.lemmas.Bool.{cases_order}
use Rattle.std.proofs.lemmas.Option.{same_Some, none-some}
use Rattle.sgt_names.specs.Entry.{tx_of}
use Rattle.sgt_names.specs.declared.entry.Entry.{Entry}
use Rattle.sgt_names.specs.declared.entry.Entry.TheVariants as entry
use Rattle.sgt_names.proofs.Places.{All_at, All-from_at, slice_get-take_at, Contains_at}
use Rattle.sgt_names.proofs.Lists.{front_at, back_at}
use Rattle.sgt_notation.specs.declared.SectionLine.{SectionLine}
use Rattle.sgt_notation.specs.declared.SectionLine.TheVariants.{Logged}
use Rattle.sgt_bundle.specs.Text.{sections_from}
use Rattle.sgt_bundle.specs.declared.certificate.Decision.TheVariants as decision
use Rattle.sgt_bundle.specs.declared.bundle.SiteLog.{SiteLog}
use Rattle.sgt_audit.specs.declared.faults.Fault.TheVariants as fault
use Rattle.sgt_audit.specs.Faults.{logged_in}
use Rattle.sgt_audit.proofs.KeptLines.{SpeaksOfLogs, finals, formed, reads}
use Rattle.sgt_audit.proofs.SectionLines.{around}
use Rattle.sgt_certify_logs.specs.Sound.{AreSound, EndAlike, IsSoundLog}
use Rattle.sgt_certify_logs.specs.Witness.{IsIn}
use Rattle.sgt_certify_faults.specs.Faults.{AreKept, KeepsAlone}
use Rattle.sgt_certify_faults.proofs.KeptAlone.{section-logged}

-- ---- entries that are to end alike

alike-turned : (e f : Entry) → EndAlike e f → EndAlike f e
alike-turned e f (d, one, other) = (d, other, one)

alike-itself : (e : Entry) → EndAlike e e
alike-itself (entry.Read tx x v) = (decision.Withdraw tx, tt, tt)
alike-itself (entry.Write tx x v) = (decision.Commit tx 0, tt, tt)
alike-itself (entry.Add tx x v) = (decision.Commit tx 0, tt, tt)
alike-itself (entry.Want tx x v) = (decision.Refuse tx [], tt, tt)
alike-itself (entry.WantAdd tx x v) = (decision.Refuse tx [], tt, tt)
alike-itself (entry.Commit tx) = (decision.Commit tx 0, tt, tt)
alike-itself (entry.Refuse tx) = (decision.Refuse tx [], tt, tt)
alike-itself (entry.Withdraw tx) = (decision.Withdraw tx, tt, tt)

-- where a value was made of an element, the list is cut there
record Cut {A B : Type 0} (h : A → Option B) (xs : List A) (n : ℕ) (y : B) : Type 0 where
  x : A
  earlier : List A
  later : List A
  cut : xs ≡ earlier ++ x ∷ later
  made : h x ≡ Some y
  front : filter_map h earlier ≡ take n (filter_map h xs)

cut-more : {A B : Type 0} (h : A → Option B) (x : A) (xs : List A) (n : ℕ) (y : B) (o : Option B) → h x ≡ o
    → ((n : ℕ) → slice_get (filter_map h xs) n ≡ Some y → Cut h xs n y)
    → slice_get (cons_option o (filter_map h xs)) n ≡ Some y → Cut h (x ∷ xs) n y
cut-more h x xs n y None is more at =
    let c = more n at in
    record {
      x = c.x;
      earlier = x ∷ c.earlier;
      later = c.later;
      cut = ap (λ ys. x ∷ ys) c.cut;
      made = c.made;
      front = ap (λ o. cons_option o (filter_map h c.earlier)) is ∙ c.front
          ∙ ap (λ o. take n (cons_option o (filter_map h xs))) (sym is);
    }
cut-more h x xs zero y (Some z) is more at =
    record { x = x; earlier = []; later = xs; cut = refl; made = is ∙ at; front = refl }
cut-more h x xs (suc n) y (Some z) is more at =
    let c = more n at in
    record {
      x = c.x;
      earlier = x ∷ c.earlier;
      later = c.later;
      cut = ap (λ ys. x ∷ ys) c.cut;
      made = c.made;
      front = ap (λ o. cons_option o (filter_map h c.earlier)) is ∙ ap (λ ys. z ∷ ys) c.front
          ∙ ap (λ o. take (suc n) (cons_option o (filter_map h xs))) (sym is);
    }

cut_at : {A B : Type 0} (h : A → Option B) (xs : List A) (n : ℕ) (y : B) → slice_get (filter_map h xs) n ≡ Some y
    → Cut h xs n y
cut_at h [] n y at = absurd (none-some y at)
cut_at h (x ∷ xs) n y at = cut-more h x xs n y (h x) refl (λ m at_m. cut_at h xs m y at_m) at

-- only an entry is logged
logged-line : (l : SectionLine) (e : Entry) → logged_in l ≡ Some e → l ≡ Logged e
logged-line (Logged f) e same = ap Logged (same_Some f e same)
logged-line _ e same = absurd (none-some e same)

-- the entries of a log are among those of all sections
among : (k : ℕ) (logs : List SiteLog) (s : ℕ) (log : SiteLog) (n : ℕ) (e : Entry) → slice_get logs s ≡ Some log
    → slice_get log.entries n ≡ Some e
    → (m : ℕ) × (slice_get (filter_map logged_in (sections_from k logs)) m ≡ Some e)
among k [] s log n e at here = absurd (none-some log at)
among k (l ∷ logs) zero log n e at here =
    let same = same_Some l log at in
    let own = subst (λ (g : SiteLog). slice_get g.entries n ≡ Some e) (sym same) here in (
      n,
      ap (λ es. slice_get es n) (section-logged k l (sections_from (suc k) logs))
          ∙ front_at l.entries (filter_map logged_in (sections_from (suc k) logs)) n e own,
    )
among k (l ∷ logs) (suc s) log n e at here =
    let more = among (suc k) logs s log n e at here in (
      length l.entries + more.0,
      ap (λ es. slice_get es (length l.entries + more.0)) (section-logged k l (sections_from (suc k) logs))
          ∙ back_at l.entries (filter_map logged_in (sections_from (suc k) logs)) more.0 ∙ more.1,
    )

-- what a line keeps whatever the certificate
pub speaks : SpeaksOfLogs KeepsAlone
speaks = record {
  item = λ b e is. is;
  twice = λ b e is. is;
  reads = λ b tx x v is. is;
  block = λ b l is. is;
  closed = λ b e is. is.1;
  ended = λ b is. is;
  final = λ b h is. is;
}

module _ (second : Bool) (before : List SectionLine) (kept : AreKept second before) where
  -- an entry before another one is to end alike, where they are of one transaction
  abbrev logged : List Entry
  logged = filter_map logged_in before

  earlier-alike : (p q : ℕ) (e f : Entry) → p < q → slice_get logged p ≡ Some e → slice_get logged q ≡ Some f
      → tx_of e ≡ tx_of f → EndAlike e f
  earlier-alike p q e f lt at_p at_q same =
      let c = cut_at logged_in before q f at_q in
      let line = logged-line c.x f c.made in
      let keeps = (kept c.earlier c.later (Logged f) (c.cut ∙ ap (λ l. c.earlier ++ l ∷ c.later) line)).1 fault.End in
      All_at (λ g. tx_of g ≡ tx_of f → EndAlike g f) (filter_map logged_in c.earlier) p e keeps.0
      (ap (λ es. slice_get es p) c.front ∙ slice_get-take_at logged q p e lt at_p) same

  at-alike : (p q : ℕ) (e f : Entry) → slice_get logged p ≡ Some e → slice_get logged q ≡ Some f → tx_of e ≡ tx_of f
      → EndAlike e f
  at-alike p q e f at_p at_q same =
      elim (cases_order p q) [
        | inl one ↦
            let equal = same_Some e f (sym at_p ∙ ap (slice_get logged) one ∙ at_q) in
            subst (EndAlike e) equal (alike-itself e)
        | inr (inl less) ↦ earlier-alike p q e f less at_p at_q same
        | inr (inr more) ↦ alike-turned f e (earlier-alike q p f e more at_q at_p (sym same))
      ]

  -- the logs of all sections
  module _ (logs : List SiteLog) (all : sections_from 0 logs ≡ before) where
    logged-at : (e : Entry) → IsIn logs e → (m : ℕ) × (slice_get logged m ≡ Some e)
    logged-at e (log, here, there) =
        let s = Contains_at logs log here in
        let n = Contains_at log.entries e there in
        let m = among 0 logs s.0 log n.0 e s.1 n.1 in
        (m.0, ap (λ ls. slice_get (filter_map logged_in ls) m.0) (sym all) ∙ m.1)

    pub logs-sound : AreSound logs
    logs-sound = record {
      logs = All-from_at IsSoundLog logs (λ s log at. let a = around 0 logs s log at in
          let whole = sym all ∙ a.whole in
          record {
            formed = formed KeepsAlone speaks second before kept (0 + s) log a.front a.back whole;
            reads = reads KeepsAlone speaks second before kept (0 + s) log a.front a.back whole;
            finals = finals KeepsAlone speaks second before kept (0 + s) log a.front a.back whole;
          });
      alike = λ e f here there same.
          let p = logged-at e here in
          let q = logged-at f there in
          at-alike p.0 q.0 e f p.1 q.1 same;
    }
