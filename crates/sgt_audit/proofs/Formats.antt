-- The increments of a bundle's logs, each allowed by its format: as entries at their places, and as lines.
use Rattle.std.proofs.Common.{◌≡◌, ℕ, zero, suc, Bool, true, false, List, [], ◌∷◌, ◌++◌, map, Some, IsTrue, All, refl, sym, ap, subst, arith}
use Rattle.std.specs.Prelude.{slice_get}
use Rattle.std.specs.List.{list_any, AllByRecursion}
use Rattle.std.proofs.lemmas.List.Folds.{Any-from_list_any, list_any-from_Any}
use Rattle.std.proofs.lemmas.List.Elements.{All-from_recursion, recursion_from_All}
use Rattle.std.proofs.lemmas.Option.{same_Some}
use Rattle.sgt_names.specs.Entry.{is_increment, IsIncrement}
use Rattle.sgt_names.specs.declared.entry.Entry.{Entry}
use Rattle.sgt_names.proofs.Places.{All_at, All-from_at}
use Rattle.sgt_names.proofs.Lists.{AllByRecursion-append, Any_at, Any-from_at}
use Rattle.sgt_notation.specs.Spelling.{IsLine}
use Rattle.sgt_notation.specs.declared.SectionLine.{SectionLine}
use Rattle.sgt_notation.specs.declared.SectionLine.TheVariants.{Initial, Logged, Final, End}
use Rattle.sgt_bundle.specs.Text.{format_line, has_increments, section_lines, sections_from}
use Rattle.sgt_bundle.specs.declared.bundle.SiteLog.{SiteLog}
use Rattle.sgt_audit.specs.Faults.{Allows, IsLineIn}
use Rattle.sgt_audit.proofs.SectionLines.{AllByRecursion-map}
use Rattle.sgt_bundle.proofs.OneText.{front-all}

-- the two formats have two lines, which end in two digits
other_digit : format_line false ≡ format_line true → ⊥
other_digit e = let digits : 49 ≡ 50 = same_Some 49 50 (ap (λ (line : List ℕ). slice_get line 4) e) in
    absurd (omega (arith, digits))

pub format-one : (f g : Bool) → format_line f ≡ format_line g → f ≡ g
format-one false false e = refl
format-one false true e = absurd (other_digit e)
format-one true false e = absurd (other_digit (sym e))
format-one true true e = refl

-- ---- the entries of the logs

abbrev HasIncrement : SiteLog → Type 0
HasIncrement log = list_any is_increment log.entries ≡ true

-- the entry is allowed in the format
abbrev pub AllowsEntry : Bool → Entry → Type 0
AllowsEntry second e = IsIncrement e → IsTrue second

pub allowed-at : (second : Bool) (logs : List SiteLog) → (IsTrue (has_increments logs) → IsTrue second)
    → (s : ℕ) (log : SiteLog) → slice_get logs s ≡ Some log → All (AllowsEntry second) log.entries
allowed-at second logs allowed s log at =
    All-from_at (AllowsEntry second) log.entries (λ n e at_e is.
    let here = list_any-from_Any is_increment log.entries (Any-from_at IsIncrement log.entries n e at_e is) in
    allowed (list_any-from_Any (λ (log : SiteLog). list_any is_increment log.entries) logs
    (Any-from_at HasIncrement logs s log at here)))

pub all-allowed : (second : Bool) (logs : List SiteLog) → ((s : ℕ) (log : SiteLog) → slice_get logs s ≡ Some log
    → All (AllowsEntry second) log.entries) → IsTrue (has_increments logs) → IsTrue second
all-allowed second logs each some =
    let l = Any_at HasIncrement logs (Any-from_list_any (λ (log : SiteLog). list_any is_increment log.entries) logs
    some) in
    let e = Any_at IsIncrement l.1.entries (Any-from_list_any is_increment l.1.entries l.3) in
    All_at (AllowsEntry second) l.1.entries e.0 e.1 (each l.0 l.1 l.2) e.2 e.3

-- ---- their lines

-- lines of a format are lines
pub lines-of : (second : Bool) (lines : List SectionLine) → All (IsLineIn second) lines → AllByRecursion IsLine lines
lines-of second lines all = recursion_from_All IsLine lines (λ n d lt. (all n d lt).0)

allowed-of : (second : Bool) (lines : List SectionLine) → All (IsLineIn second) lines
    → AllByRecursion (Allows second) lines
allowed-of second lines all = recursion_from_All (Allows second) lines (λ n d lt. (all n d lt).1)

lines-in : (second : Bool) (lines : List SectionLine) → AllByRecursion IsLine lines
    → AllByRecursion (Allows second) lines → AllByRecursion (IsLineIn second) lines
lines-in second [] is allowed = tt
lines-in second (l ∷ lines) is allowed = ((is.0, allowed.0), lines-in second lines is.1 allowed.1)

module _ (second : Bool) where
  logged-allowed : (entries : List Entry) → AllByRecursion (AllowsEntry second) entries
      → AllByRecursion (Allows second) (map Logged entries)
  logged-allowed [] h = tt
  logged-allowed (e ∷ entries) h = (h.0, logged-allowed entries h.1)

  entries-allowed : (entries : List Entry) → AllByRecursion (Allows second) (map Logged entries)
      → AllByRecursion (AllowsEntry second) entries
  entries-allowed [] h = tt
  entries-allowed (e ∷ entries) h = (h.0, entries-allowed entries h.1)

  module _ (k : ℕ) (log : SiteLog) where
    abbrev items : List SectionLine
    items = map Initial log.items

    abbrev entries : List SectionLine
    entries = map Logged log.entries

    abbrev finals : List SectionLine
    finals = map Final log.finals

    section-allowed : All (AllowsEntry second) log.entries → AllByRecursion (Allows second) (section_lines k log)
    section-allowed h =
        let front =
        AllByRecursion-append (Allows second) items entries
        (AllByRecursion-map (Allows second) Initial (λ h. tt) log.items)
        (logged-allowed log.entries (recursion_from_All (AllowsEntry second) log.entries h)) in
        let body =
        AllByRecursion-append (Allows second) (items ++ entries) finals front
        (AllByRecursion-map (Allows second) Final (λ h. tt) log.finals) in
        (tt, AllByRecursion-append (Allows second) (items ++ entries ++ finals) (End ∷ []) body (tt, tt))

    allowed-section : AllByRecursion (Allows second) (section_lines k log) → All (AllowsEntry second) log.entries
    allowed-section h =
        let body = (front-all (Allows second) (items ++ entries ++ finals) (End ∷ []) h.1).0 in
        let front = (front-all (Allows second) (items ++ entries) finals body).0 in
        All-from_recursion (AllowsEntry second) log.entries
        (entries-allowed log.entries (front-all (Allows second) items entries front).1)

  sections-allowed : (k : ℕ) (logs : List SiteLog) → ((s : ℕ) (log : SiteLog) → slice_get logs s ≡ Some log
      → All (AllowsEntry second) log.entries) → AllByRecursion (Allows second) (sections_from k logs)
  sections-allowed k [] h = tt
  sections-allowed k (log ∷ logs) h =
      AllByRecursion-append (Allows second) (section_lines k log) (sections_from (suc k) logs)
      (section-allowed k log (h 0 log refl)) (sections-allowed (suc k) logs (λ s l at. h (suc s) l at))

  allowed-sections : (k : ℕ) (logs : List SiteLog) → AllByRecursion (Allows second) (sections_from k logs)
      → (s : ℕ) (log : SiteLog) → slice_get logs s ≡ Some log → All (AllowsEntry second) log.entries
  allowed-sections k [] h s log at = absurd cc
  allowed-sections k (l ∷ logs) h zero log at =
      subst (λ (l : SiteLog). All (AllowsEntry second) l.entries) (same_Some l log at)
      (allowed-section k l (front-all (Allows second) (section_lines k l) (sections_from (suc k) logs) h).0)
  allowed-sections k (l ∷ logs) h (suc s) log at =
      allowed-sections (suc k) logs (front-all (Allows second) (section_lines k l) (sections_from (suc k) logs) h).1 s
      log at

  -- the lines of these logs are lines of the format exactly where it allows their increments
  pub lines-allowed : (k : ℕ) (logs : List SiteLog) → AllByRecursion IsLine (sections_from k logs)
      → (IsTrue (has_increments logs) → IsTrue second) → All (IsLineIn second) (sections_from k logs)
  lines-allowed k logs is allowed =
      All-from_recursion (IsLineIn second) (sections_from k logs)
      (lines-in second (sections_from k logs) is (sections-allowed k logs (allowed-at second logs allowed)))

  pub logs-allowed : (k : ℕ) (logs : List SiteLog) → All (IsLineIn second) (sections_from k logs)
      → IsTrue (has_increments logs) → IsTrue second
  logs-allowed k logs lines =
      all-allowed second logs (allowed-sections k logs (allowed-of second (sections_from k logs) lines))
