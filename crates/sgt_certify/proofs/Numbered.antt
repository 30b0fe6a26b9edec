-- Each line of a text that can be held has a number below 2^64.
use Rattle.std.proofs.Common.{◌≡◌, ℕ, zero, suc, ◌+◌, ◌<◌, ◌≤◌, ◌^◌, List, [], ◌∷◌, ◌++◌, length, map, All, Some, refl, sym, ap, ◌∙◌, subst, arith}
use Rattle.std.specs.Prelude.{slice_get, drop}
use Rattle.std.specs.List.{AllByRecursion}
use Rattle.std.proofs.lemmas.List.{length-append, length-map}
use Rattle.std.proofs.lemmas.List.Elements.{All-from_recursion}
use Rattle.std.proofs.lemmas.Option.{same_Some, slice_get_within}
use Rattle.sgt_names.specs.Entry.{IsEnd}
use Rattle.sgt_names.specs.declared.entry.Entry.{Entry}
use Rattle.sgt_notation.specs.Spelling.{line_text, text_of_lines}
use Rattle.sgt_notation.specs.declared.SectionLine.{SectionLine}
use Rattle.sgt_notation.specs.declared.SectionLine.TheVariants.{Site, Initial, Logged, Final, End}
use Rattle.sgt_bundle.specs.Text.{format_line, section_lines, sections_from}
use Rattle.sgt_bundle.specs.declared.bundle.SiteLog.{SiteLog}
use Rattle.sgt_certify_logs.specs.Certifiable.{SpellsLogs}
use Rattle.sgt_certify_logs.specs.Steps.{HasConflict, IsConflictStep, IsEndStep, LeadFrom, LeadRound, StandsAt}
use Rattle.sgt_certify_logs.specs.declared.checks.ConflictStep.{ConflictStep}
use Rattle.sgt_certify_logs.specs.declared.checks.EndStep.{EndStep}
use Rattle.sgt_certify.specs.Lines.{IsNextEnd, line_in_sections, line_of, section_length}
use Rattle.sgt_certify.specs.Reasons.{AreNumbered}
use Rattle.sgt_notation.proofs.Texts.{lines-long, first_line}

-- ---- how many lines there are

section-long : (k : ℕ) (log : SiteLog) → length (section_lines k log) ≡ section_length log
section-long k log =
    let items = length-map log.items Initial in
    let entries = length-map log.entries Logged in
    let finals = length-map log.finals Final in
    let two = length-append (map Initial log.items) (map Logged log.entries) in
    let three = length-append (map Initial log.items ++ map Logged log.entries) (map Final log.finals) in
    let all = length-append ((map Initial log.items ++ map Logged log.entries) ++ map Final log.finals) (End ∷ []) in
    omega (arith, items, entries, finals, two, three, all)

in-sections : (k : ℕ) (sites : List SiteLog) (site place : ℕ) (log : SiteLog) → slice_get sites site ≡ Some log
    → place < length log.entries
    → line_in_sections sites site place ≤ length (sections_from k sites)
in-sections k [] site place log at lt = absurd (let within = slice_get_within [] site log at in omega (arith, within))
in-sections k (l ∷ sites) zero place log at lt =
    let same : l ≡ log = same_Some l log at in
    let inside = subst (λ (x : SiteLog). place < length x.entries) (sym same) lt in
    let here = section-long k l in
    let all = length-append (section_lines k l) (sections_from (suc k) sites) in
    omega (arith, inside, here, all)
in-sections k (l ∷ sites) (suc site) place log at lt =
    let later = in-sections (suc k) sites site place log at lt in
    let here = section-long k l in
    let all = length-append (section_lines k l) (sections_from (suc k) sites) in
    omega (arith, later, here, all)

pub numbered : (bytes : List ℕ) (sites : List SiteLog) → SpellsLogs bytes sites → length bytes < 2 ^ 64
    → AreNumbered sites
numbered bytes sites logs short = record {
  few = logs.shape.few;
  below = λ site place log at lt.
      let inside = in-sections 0 sites site place log at lt in
      let body = map line_text (sections_from 0 sites) in
      let many = length-map (sections_from 0 sites) line_text in
      let most = lines-long (format_line logs.second ∷ body) in
      let whole = ap length logs.text in
      omega (arith, inside, many, most, whole, short);
}

-- ---- what stands in a log

pub stands-numbered : (sites : List SiteLog) (site place : ℕ) (e : Entry) → AreNumbered sites
    → StandsAt sites site place e → 2 ^ 64 ≤ line_of sites site place → ⊥
stands-numbered sites site place e are at big =
    let within = slice_get_within at.log.entries place e at.there in
    let below = are.below site place at.log at.here within in
    absurd (omega (arith, below, big))

pub next-numbered : (sites : List SiteLog) (D : ℕ → Type 0) (site place : ℕ) (log : SiteLog) → AreNumbered sites
    → slice_get sites site ≡ Some log
    → ((e : Entry) × IsNextEnd D log.entries place e) → 2 ^ 64 ≤ line_of sites site place → ⊥
next-numbered sites D site place log are here (e, next) big =
    stands-numbered sites site place e are (record { log = log; here = here; there = next.at }) big

-- ---- each step of a way round

module _ {S : Type 0} (from to : S → ℕ) (Is : S → Type 0) where
  each-from : (steps : List S) (a b : ℕ) → LeadFrom from to Is a steps b → AllByRecursion Is steps
  each-from [] a b lead = tt
  each-from (s ∷ steps) a b lead = (lead.1, each-from steps (to s) b lead.2)

  pub each-round : (steps : List S) → LeadRound from to Is steps → All Is steps
  each-round [] lead = absurd lead
  each-round (s ∷ steps) lead = All-from_recursion Is (s ∷ steps) (each-from (s ∷ steps) (from s) (from s) lead)

-- ---- the logs from a site on

pub drop-first : {A : Type 0} (n : ℕ) (xs : List A) (x : A) (ys : List A) → drop n xs ≡ x ∷ ys
    → (slice_get xs n ≡ Some x) × (drop (n + 1) xs ≡ ys)
drop-first {A} zero [] x ys e = absurd cc
drop-first {A} (suc n) [] x ys e = absurd cc
drop-first {A} zero (z ∷ xs) x ys e = (ap (λ (l : List A). slice_get l 0) e, ap (λ (l : List A). drop 1 l) e)
drop-first {A} (suc n) (z ∷ xs) x ys e =
    let rest = drop-first n xs x ys e in
    let one : suc n + 1 ≡ suc (n + 1) = omega arith in
    (rest.0, ap (λ k. drop k (z ∷ xs)) one ∙ rest.1)
