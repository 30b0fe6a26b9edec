-- Logs that have a certificate keep every rule that doesn't speak of it.
use Rattle.std.proofs.Common.{◌≡◌, suc, List, [], ◌∷◌, ◌++◌, length, map, Some, refl, sym, ap, ◌∙◌, subst, All, Contains}
use Rattle.std.specs.Prelude.{slice_get, ℕ}
use Rattle.std.specs.List.{filter_map}
use Rattle.std.proofs.lemmas.List.Elements.{All-append, All-nil, filter_map-append}
use Rattle.std.proofs.lemmas.Option.{same_Some}
use Rattle.sgt_names.specs.Entry.{tx_of}
use Rattle.sgt_names.specs.declared.entry.Entry.{Entry}
use Rattle.sgt_names.specs.declared.entry.Holding.{Holding}
use Rattle.sgt_names.proofs.Places.{All_at, All-from_at, Contains-from_at}
use Rattle.sgt_names.proofs.Lists.{front_at, middle_at}
use Rattle.sgt_notation.specs.declared.SectionLine.{SectionLine}
use Rattle.sgt_notation.specs.declared.SectionLine.TheVariants.{Site, Initial, Logged, Final, End}
use Rattle.sgt_bundle.specs.Parts.{Parts, IsShaped}
use Rattle.sgt_bundle.specs.Certificate.{Suits}
use Rattle.sgt_bundle.specs.Valid.{IsValid}
use Rattle.sgt_bundle.specs.Text.{section_lines, sections_from}
use Rattle.sgt_bundle.specs.declared.certificate.Certificate.{Certificate}
use Rattle.sgt_bundle.specs.declared.bundle.SiteLog.{SiteLog}
use Rattle.sgt_bundle.proofs.OneText.{section_spread}
use Rattle.sgt_audit.specs.declared.faults.Fault.{Fault}
use Rattle.sgt_audit.specs.declared.faults.Fault.TheVariants as fault
use Rattle.sgt_audit.specs.declared.rules.Rules.TheVariants.{Asked}
use Rattle.sgt_audit.specs.Faults.{Keeps, logged_in}
use Rattle.sgt_audit.proofs.Faultless.{rules-kept}
use Rattle.sgt_audit.proofs.Least.{by-any}
use Rattle.sgt_certify_logs.specs.Witness.{IsIn}
use Rattle.sgt_certify_logs.proofs.Decisions.{ds, decided_in, one-number}
use Rattle.sgt_certify_logs.specs.Sound.{EndAlike}
use Rattle.sgt_certify_faults.specs.Faults.{KeepsAlone}
use Rattle.sgt_certify_faults.specs.private.Judging.{TellsLineOdds}
use Rattle.sgt_certify_faults.proofs.Alone.{line-alike}

-- ---- the entries of sections

no-initials : (items : List Holding) (rest : List SectionLine)
    → filter_map logged_in (map Initial items ++ rest) ≡ filter_map logged_in rest
no-initials [] rest = refl
no-initials (h ∷ items) rest = no-initials items rest

no-finals : (finals : List Holding) (rest : List SectionLine)
    → filter_map logged_in (map Final finals ++ rest) ≡ filter_map logged_in rest
no-finals [] rest = refl
no-finals (h ∷ finals) rest = no-finals finals rest

all-logged : (entries : List Entry) (rest : List SectionLine)
    → filter_map logged_in (map Logged entries ++ rest) ≡ entries ++ filter_map logged_in rest
all-logged [] rest = refl
all-logged (e ∷ entries) rest = ap (λ es. e ∷ es) (all-logged entries rest)

-- the entries of an open section, and those of a whole one
pub open-logged : (log : SiteLog) (rest : List SectionLine)
    → filter_map logged_in (map Initial log.items ++ (map Logged log.entries ++ (map Final log.finals ++ rest)))
    ≡ log.entries ++ filter_map logged_in rest
open-logged log rest =
    no-initials log.items (map Logged log.entries ++ (map Final log.finals ++ rest))
    ∙ all-logged log.entries (map Final log.finals ++ rest)
    ∙ ap (λ (es : List Entry). log.entries ++ es) (no-finals log.finals rest)

pub section-logged : (k : ℕ) (log : SiteLog) (back : List SectionLine)
    → filter_map logged_in (section_lines k log ++ back) ≡ log.entries ++ filter_map logged_in back
section-logged k log back = ap (filter_map logged_in) (section_spread k log back) ∙ open-logged log (End ∷ back)

all-in : (sites : List SiteLog) (k : ℕ) (logs : List SiteLog) → ((s : ℕ) (log : SiteLog) → slice_get logs s ≡ Some log
    → Contains sites log) → All (IsIn sites) (filter_map logged_in (sections_from k logs))
all-in sites k [] here = All-nil (IsIn sites)
all-in sites k (log ∷ logs) here =
    subst (All (IsIn sites)) (sym (section-logged k log (sections_from (suc k) logs)))
    (All-append (IsIn sites) log.entries (filter_map logged_in (sections_from (suc k) logs))
    (All-from_at (IsIn sites) log.entries (λ n e at. (log, here 0 log refl, Contains-from_at log.entries n e at)))
    (all-in sites (suc k) logs (λ s l at. here (suc s) l at)))

module _ (sites : List SiteLog) (c : Certificate) (valid : IsValid (record { certificate = c; sites = sites }))
    (shape : IsShaped (length sites) sites) where
  abbrev b : Parts
  b = record { certificate = c; sites = sites }

  abbrev before : List SectionLine
  before = sections_from 0 sites

  -- with as many sites as there are logs it is valid too
  abbrev counted : Parts
  counted = record { certificate = record { decisions = c.decisions; sites = length sites }; sites = sites }

  counted-valid : IsValid counted
  counted-valid = record { logs = valid.logs; once = valid.once; ranks = valid.ranks; cycles = valid.cycles }

  -- entries of one transaction are decided by one decision
  alike : (f e : Entry) → IsIn sites f → IsIn sites e → tx_of f ≡ tx_of e → EndAlike f e
  alike f e here there same =
      let m = decided_in b valid f here in
      let n = decided_in b valid e there in
      let one = one-number (ds b valid) (tx_of e) m.0 n.0 valid.once (m.1.0, m.1.1, m.1.2 ∙ same) (
        n.1.0,
        n.1.1,
        n.1.2,
      ) in
      let same_d = same_Some m.1.0 n.1.0 (sym m.1.1 ∙ ap (slice_get (ds b valid)) one ∙ n.1.1) in
      (n.1.0, subst (Suits f) same_d m.1.3, n.1.3)

  alike-before : (earlier later : List SectionLine) (e : Entry) → before ≡ earlier ++ Logged e ∷ later
      → All (λ f. tx_of f ≡ tx_of e → EndAlike f e) (filter_map logged_in earlier)
  alike-before earlier later e cut =
      let front = filter_map logged_in earlier in
      let back = filter_map logged_in later in
      let all = subst (All (IsIn sites)) (ap (filter_map logged_in) cut
      ∙ filter_map-append logged_in earlier (Logged e ∷ later))
      (all-in sites 0 sites (λ s log at. Contains-from_at sites s log at)) in
      let there = All_at (IsIn sites) (front ++ e ∷ back) (length front) e all (middle_at front e back) in
      All-from_at (λ f. tx_of f ≡ tx_of e → EndAlike f e) front (λ n f at.
      alike f e (All_at (IsIn sites) (front ++ e ∷ back) n f all (front_at front (e ∷ back) n f at)) there)

  tells : (earlier later : List SectionLine) (l : SectionLine) → before ≡ earlier ++ l ∷ later
      → ((f : Fault) → Keeps counted.certificate earlier l f) → TellsLineOdds c.decisions earlier l
  tells earlier later (Site k) cut keeps = tt
  tells earlier later (Initial h) cut keeps = tt
  tells earlier later (Logged e) cut keeps = (λ by. alike-before earlier later e cut, λ all. (keeps fault.End).0)
  tells earlier later (Final h) cut keeps = tt
  tells earlier later End cut keeps = tt

  pub kept-alone : (earlier later : List SectionLine) (l : SectionLine) → before ≡ earlier ++ l ∷ later → (f : Fault)
      → KeepsAlone earlier l f
  kept-alone earlier later l cut f =
      let keeps = rules-kept counted counted-valid shape earlier later l cut in
      (line-alike counted.certificate earlier l (tells earlier later l cut keeps) (λ kept. keeps fault.Section) f).0
      (by-any Asked counted.certificate earlier l f (keeps f))
