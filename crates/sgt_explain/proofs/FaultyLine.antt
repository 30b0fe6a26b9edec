-- The line of a section that has the first fault of a text, and the lines before it.
use Rattle.std.proofs.Common.{◌≡◌, ◌≢◌, ℕ, suc, ◌+◌, ◌<◌, List, [], ◌∷◌, ◌++◌, length, map, take, drop, Some, Bool, refl, sym, ap, ◌∙◌, subst, arith, append_assoc, take-append-drop, All}
use Rattle.std.specs.Prelude.{fold, slice_get}
use Rattle.std.specs.List.{filter_map, enumerate_from}
use Rattle.std.proofs.lemmas.Grind.{flat_map-append}
use Rattle.std.proofs.lemmas.List.{length-map, map-append}
use Rattle.std.proofs.lemmas.List.Elements.{All-from_recursion}
use Rattle.sgt_names.proofs.Lists.{drop_next}
use Rattle.sgt_names.proofs.Places.{All-from_at}
use Rattle.sgt_notation.specs.Spelling.{line_text, text_of_lines, HasNoLf, IsLine}
use Rattle.sgt_notation.specs.declared.SectionLine.{SectionLine}
use Rattle.sgt_notation.specs.declared.SectionLine.TheVariants.{Site, Initial, Logged, Final, End}
use Rattle.sgt_notation.proofs.OneSpelling.{line-one}
use Rattle.sgt_bundle.specs.Text.{certificate_text, format_line, IsCertificate}
use Rattle.sgt_bundle.specs.declared.certificate.Certificate.{Certificate}
use Rattle.sgt_bundle.proofs.OneLine.{certificate-one_line}
use Rattle.sgt_bundle.proofs.OneText.{format-one_line}
use Rattle.sgt_audit.specs.declared.faults.Fault.{Fault}
use Rattle.sgt_audit.specs.declared.faults.Fault.TheVariants as fault
use Rattle.sgt_audit.specs.Faults.{fault_number, section_with, open_section, initial_in, items_in, entries_in, IsLineIn, Keeps, AllKept, Stage, start, headed, within, complete, lines_so_far, IsFaultless, Piece, whole, last, ComesNext, Rule, Breaks, FirstFault}
use Rattle.sgt_audit.specs.Faults.{logged_in as entry_in}
use Rattle.sgt_explain_lines.specs.Numbered.{HasLine, with_line, open_lines, stated_in, logged_in, numbered_items, numbered_entries}
use Rattle.sgt_explain_lines.specs.Values.{holdings_of, entries_of}
use Rattle.sgt_explain.specs.Shown.{lines_before}
use Rattle.sgt_notation.proofs.Texts.{line_front}

-- ---- the open section, with the numbers of its lines and without

abbrev plain : List (ℕ × SectionLine) → List SectionLine
plain ps = map (λ p. p.1) ps

plain-with : (ps : List (ℕ × SectionLine)) (n : ℕ) (l : SectionLine)
    → plain (with_line ps (n, l)) ≡ section_with (plain ps) l
plain-with ps n (Site k) = refl
plain-with ps n (Initial h) = map-append (λ (p : ℕ × SectionLine). p.1) ps ((n, Initial h) ∷ [])
plain-with ps n (Logged e) = map-append (λ (p : ℕ × SectionLine). p.1) ps ((n, Logged e) ∷ [])
plain-with ps n (Final h) = map-append (λ (p : ℕ × SectionLine). p.1) ps ((n, Final h) ∷ [])
plain-with ps n End = map-append (λ (p : ℕ × SectionLine). p.1) ps ((n, End) ∷ [])

plain-from : (ps : List (ℕ × SectionLine)) (n : ℕ) (ls : List SectionLine)
    → plain (fold with_line ps (enumerate_from n ls)) ≡ fold section_with (plain ps) ls
plain-from ps n [] = refl
plain-from ps n (l ∷ ls) = plain-from (with_line ps (n, l)) (n + 1) ls
    ∙ ap (λ s. fold section_with s ls) (plain-with ps n l)

plain-open : (before : List SectionLine) → plain (open_lines before) ≡ open_section before
plain-open before = plain-from [] 3 before

stated-plain : (ps : List (ℕ × SectionLine)) → holdings_of (filter_map stated_in ps) ≡ filter_map initial_in (plain ps)
stated-plain [] = refl
stated-plain ((n, Site k) ∷ ps) = stated-plain ps
stated-plain ((n, Initial h) ∷ ps) = ap (λ hs. h ∷ hs) (stated-plain ps)
stated-plain ((n, Logged e) ∷ ps) = stated-plain ps
stated-plain ((n, Final h) ∷ ps) = stated-plain ps
stated-plain ((n, End) ∷ ps) = stated-plain ps

logged-plain : (ps : List (ℕ × SectionLine)) → entries_of (filter_map logged_in ps) ≡ filter_map entry_in (plain ps)
logged-plain [] = refl
logged-plain ((n, Site k) ∷ ps) = logged-plain ps
logged-plain ((n, Initial h) ∷ ps) = logged-plain ps
logged-plain ((n, Logged e) ∷ ps) = ap (λ es. e ∷ es) (logged-plain ps)
logged-plain ((n, Final h) ∷ ps) = logged-plain ps
logged-plain ((n, End) ∷ ps) = logged-plain ps

pub items-same : (before : List SectionLine) → holdings_of (numbered_items before) ≡ items_in before
items-same before = stated-plain (open_lines before) ∙ ap (filter_map initial_in) (plain-open before)

pub entries-same : (before : List SectionLine) → entries_of (numbered_entries before) ≡ entries_in before
entries-same before = logged-plain (open_lines before) ∙ ap (filter_map entry_in) (plain-open before)

-- ---- the line that has the first fault

pub record FaultyLine (bytes : List ℕ) (n : ℕ) (f : Fault) (stage : Stage) (next : Piece) : Type 0 where
  pub second : Bool
  pub c : Certificate
  pub before : List SectionLine
  pub line : SectionLine
  pub at : stage ≡ within second c before
  pub comes : next ≡ whole (line_text line)
  pub has : HasLine bytes n before line
  pub kept : AllKept second c before
  pub certified : (first : List ℕ) × (more : List ℕ) × HasNoLf first
      × (bytes ≡ first ++ 10 ∷ (certificate_text c ++ 10 ∷ more))
  pub begun : Keeps c before line fault.Section
  pub known : fault_number fault.Item < fault_number f → Keeps c before line fault.Item
  pub decided : fault_number fault.End < fault_number f → Keeps c before line fault.End
  pub broken : Keeps c before line f → ⊥

split_at : (ls : List SectionLine) (n : ℕ) (l : SectionLine) → slice_get ls n ≡ Some l
    → ls ≡ take n ls ++ l ∷ drop (n + 1) ls
split_at ls n l at = sym (take-append-drop n ls) ∙ ap (λ ms. take n ls ++ ms) (drop_next ls n l at)

pub kept-spelled : (second : Bool) (c : Certificate) (before : List SectionLine) → AllKept second c before
    → All IsLine before
kept-spelled second c before kept =
    All-from_at IsLine before
    (λ n l at. (kept.lines (take n before) (drop (n + 1) before) l (split_at before n l at)).0.0)

module _ (bytes rest l : List ℕ) (n : ℕ) (second : Bool) (c : Certificate) (before : List SectionLine)
    (text : bytes ≡ text_of_lines (lines_so_far (within second c before)) ++ rest)
    (faultless : IsFaultless (within second c before))
    (number : n ≡ length (lines_so_far (within second c before)) + 1) (comes : ComesNext rest (whole l)) where
  abbrev two_lines : List (List ℕ)
  two_lines = format_line second ∷ certificate_text c ∷ []

  has-line : (line : SectionLine) → IsLine line → l ≡ line_text line → HasLine bytes n before line
  has-line line is e =
      let lines : length (lines_so_far (within second c before)) ≡ suc (suc (length (map line_text before))) = refl in
      let long : length (map line_text before) ≡ length before = length-map before line_text in
      record {
        head = two_lines;
        rest = comes.0;
        two = refl;
        whole = All-from_recursion HasNoLf two_lines (
          All-from_recursion (λ b. b ≢ 10) (format_line second) (format-one_line second),
          (All-from_recursion (λ b. b ≢ 10) (certificate_text c) (certificate-one_line c faultless.0.spelled), tt),
        );
        spelled = kept-spelled second c before faultless.0;
        one = is;
        text = text ∙ ap (λ t. t ++ rest) (flat_map-append (λ m. m ++ 10 ∷ []) two_lines (map line_text before))
            ∙ append_assoc (text_of_lines two_lines) (text_of_lines (map line_text before)) rest
            ∙ ap (λ r. text_of_lines two_lines ++ (text_of_lines (map line_text before) ++ r)) (comes.1
            ∙ ap (λ m. m ++ 10 ∷ comes.0) e);
        counted = omega (arith, number, lines, long);
      }

  inside : (f : Fault) → Rule (within second c before) (whole l) fault.Notation
      → Rule (within second c before) (whole l) fault.Section
      → (fault_number fault.Item < fault_number f → Rule (within second c before) (whole l) fault.Item)
      → (fault_number fault.End < fault_number f → Rule (within second c before) (whole l) fault.End)
      → (((line : SectionLine) → IsLineIn second line → l ≡ line_text line → Keeps c before line f) → ⊥)
      → FaultyLine bytes n f (within second c before) (whole l)
  inside f spelled begun known decided broken = record {
    second = second;
    c = c;
    before = before;
    line = spelled.0;
    at = refl;
    comes = ap whole spelled.2;
    has = has-line spelled.0 spelled.1.0 spelled.2;
    kept = faultless.0;
    certified = (
      format_line second,
      text_of_lines (map line_text before) ++ rest,
      All-from_recursion (λ b. b ≢ 10) (format_line second) (format-one_line second),
      text ∙ line_front (format_line second) (certificate_text c ∷ map line_text before) rest
          ∙ ap (λ (r : List ℕ). format_line second ++ 10 ∷ r)
          (line_front (certificate_text c) (map line_text before) rest),
    );
    begun = begun spelled.0 spelled.1 spelled.2;
    known = λ less. known less spelled.0 spelled.1 spelled.2;
    decided = λ less. decided less spelled.0 spelled.1 spelled.2;
    broken = λ keeps. broken
        (λ m is e. subst (λ k. Keeps c before k f) (line-one spelled.0 m spelled.1.0 is.0 (sym spelled.2 ∙ e)) keeps);
  }

-- a rule asks nothing of a line that can't stand in a section
abbrev Elsewhere : (Stage → Piece → Type 0) → Type 0
Elsewhere rule = ((l : List ℕ) → rule start (whole l))
    × ((l : List ℕ) → rule start (last l))
    × ((second : Bool) (l : List ℕ) → rule (headed second) (whole l))
    × ((second : Bool) (l : List ℕ) → rule (headed second) (last l))
    × ((second : Bool) (c : Certificate) (before : List SectionLine) (l : List ℕ)
    → rule (within second c before) (last l))
    × ((second : Bool) (c : Certificate) (before : List SectionLine) (l : List ℕ)
    → rule (complete second c before) (whole l))
    × ((second : Bool) (c : Certificate) (before : List SectionLine) (l : List ℕ)
    → rule (complete second c before) (last l))

abbrev nothing_of : Stage → Piece → Type 0
nothing_of (headed second) (whole l) = (c : Certificate) → IsCertificate c → l ≡ certificate_text c → Unit {0}
nothing_of stage next = Unit {0}

nothing : Elsewhere nothing_of
nothing = (
  λ l. tt,
  λ l. tt,
  λ second l c is e. tt,
  λ second l. tt,
  λ second c before l. tt,
  λ second c before l. tt,
  λ second c before l. tt,
)

-- so where it is broken the line stands in a section
only-inside : (C : Stage → Piece → Type 0) (f : Fault) → Elsewhere (λ stage next. Rule stage next f)
    → ((second : Bool) (c : Certificate) (before : List SectionLine) (l : List ℕ)
    → C (within second c before) (whole l)) → (stage : Stage) (next : Piece) → (Rule stage next f → ⊥) → C stage next
only-inside C f none is start (whole l) broken = absurd (broken (none.0 l))
only-inside C f none is start (last l) broken = absurd (broken (none.1 l))
only-inside C f none is (headed second) (whole l) broken = absurd (broken (none.2 second l))
only-inside C f none is (headed second) (last l) broken = absurd (broken (none.3 second l))
only-inside C f none is (within second c before) (whole l) broken = is second c before l
only-inside C f none is (within second c before) (last l) broken = absurd (broken (none.4 second c before l))
only-inside C f none is (complete second c before) (whole l) broken = absurd (broken (none.5 second c before l))
only-inside C f none is (complete second c before) (last l) broken = absurd (broken (none.6 second c before l))

-- its rule is that of the section's lines
abbrev IsOfLines : Fault → Type 0
IsOfLines f = (second : Bool) (c : Certificate) (before : List SectionLine) (l : List ℕ)
    → ((line : SectionLine) → IsLineIn second line → l ≡ line_text line → Keeps c before line f)
    → Rule (within second c before) (whole l) f

module _ (bytes : List ℕ) (n : ℕ) where
  in-section : (f : Fault) → Elsewhere (λ stage next. Rule stage next f) → IsOfLines f
      → fault_number fault.Section < fault_number f → (first : FirstFault bytes n f)
      → FaultyLine bytes n f first.stage first.next
  in-section f none rule behind first =
      only-inside (λ (stage : Stage) (next : Piece). bytes ≡ text_of_lines (lines_so_far stage) ++ first.rest
      → IsFaultless stage → n ≡ length (lines_so_far stage) + 1 → ComesNext first.rest next
      → Breaks (Rule stage next) f → FaultyLine bytes n f stage next) f none
      (λ second c before l text kept number comes breaks.
      inside bytes first.rest l n second c before text kept number comes f
      (breaks.least fault.Notation (omega (arith, behind))) (breaks.least fault.Section behind)
      (breaks.least fault.Item) (breaks.least fault.End) (λ keeps. breaks.broken (rule second c before l keeps)))
      first.stage first.next first.breaks.broken first.text first.faultless first.number first.comes first.breaks

  -- a line that the section doesn't allow spells one all the same
  pub section-line : (first : FirstFault bytes n fault.Section)
      → (line : SectionLine) × HasLine bytes n (lines_before first.stage) line
  section-line first =
      only-inside (λ (stage : Stage) (next : Piece). bytes ≡ text_of_lines (lines_so_far stage) ++ first.rest
      → IsFaultless stage → n ≡ length (lines_so_far stage) + 1 → ComesNext first.rest next
      → Breaks (Rule stage next) fault.Section → (line : SectionLine) × HasLine bytes n (lines_before stage) line)
      fault.Section nothing
      (λ second c before l text kept number comes breaks.
      let spelled = breaks.least fault.Notation (omega arith) in
      (spelled.0, has-line bytes first.rest l n second c before text kept number comes spelled.0 spelled.1.0 spelled.2))
      first.stage first.next first.breaks.broken first.text first.faultless first.number first.comes first.breaks

  pub rank-line : (first : FirstFault bytes n fault.RankOrder) → FaultyLine bytes n fault.RankOrder first.stage first.next
  rank-line = in-section fault.RankOrder nothing (λ second c before l keeps. keeps) (omega arith)

  pub read-line : (first : FirstFault bytes n fault.ReadValue) → FaultyLine bytes n fault.ReadValue first.stage first.next
  read-line = in-section fault.ReadValue nothing (λ second c before l keeps. keeps) (omega arith)

  pub final-line : (first : FirstFault bytes n fault.Final) → FaultyLine bytes n fault.Final first.stage first.next
  final-line = in-section fault.Final nothing (λ second c before l keeps. keeps) (omega arith)

  pub step-line : (first : FirstFault bytes n fault.WalkStep) → FaultyLine bytes n fault.WalkStep first.stage first.next
  step-line = in-section fault.WalkStep nothing (λ second c before l keeps. keeps) (omega arith)

  pub item-line : (first : FirstFault bytes n fault.Item) → FaultyLine bytes n fault.Item first.stage first.next
  item-line = in-section fault.Item nothing (λ second c before l keeps. keeps) (omega arith)

  pub twice-line : (first : FirstFault bytes n fault.Twice) → FaultyLine bytes n fault.Twice first.stage first.next
  twice-line = in-section fault.Twice nothing (λ second c before l keeps. keeps) (omega arith)

  pub block-line : (first : FirstFault bytes n fault.Block) → FaultyLine bytes n fault.Block first.stage first.next
  block-line = in-section fault.Block nothing (λ second c before l keeps. keeps) (omega arith)

  pub end-line : (first : FirstFault bytes n fault.End) → FaultyLine bytes n fault.End first.stage first.next
  end-line = in-section fault.End nothing (λ second c before l keeps. keeps) (omega arith)

  pub decision-line : (first : FirstFault bytes n fault.DecisionOrder) → FaultyLine bytes n fault.DecisionOrder first.stage first.next
  decision-line = in-section fault.DecisionOrder nothing (λ second c before l keeps. keeps) (omega arith)

  pub left-line : (first : FirstFault bytes n fault.NotEnded) → FaultyLine bytes n fault.NotEnded first.stage first.next
  left-line = in-section fault.NotEnded nothing (λ second c before l keeps. keeps) (omega arith)
