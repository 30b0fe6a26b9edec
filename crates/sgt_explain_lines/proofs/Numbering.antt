-- Lines cut off a text, and the section that is open behind one more of them.
use Rattle.std.proofs.Common.{◌≡◌, ◌≢◌, ℕ, suc, ◌+◌, List, [], ◌∷◌, ◌++◌, length, map, drop, Some, None, inl, inr, refl, sym, subst, ap, ap₂, ◌∙◌, ◌-◌, ◌<◌, ◌≤◌, arith, append_assoc, length-append, All}
use Rattle.std.specs.Prelude.{fold, Result, Ok, Err, OnOk, slice_get}
use Rattle.std.specs.List.{filter_map, enumerate_from}
use Rattle.std.proofs.lemmas.Grind.{flat_map-append}
use Rattle.std.proofs.lemmas.List.{append-nil, drop_all, length-map}
use Rattle.std.proofs.lemmas.List.Elements.{filter_map-append, recursion_from_All, All-from_recursion, All-append}
use Rattle.std.proofs.lemmas.List.Sums.{fold-append}
use Rattle.sgt_names.proofs.Lists.{within_at, drop_next, map_at, middle_at, All-from_map, All-weaken}
use Rattle.sgt_names.proofs.Places.{All_at}
use Rattle.sgt_notation.specs.Spelling.{line_text, text_of_lines, HasNoLf, IsLine}
use Rattle.sgt_notation.specs.Reading.{Reads}
use Rattle.sgt_notation.specs.declared.fault.NotationFault.{NotationFault}
use Rattle.sgt_notation.specs.declared.SectionLine.{SectionLine}
use Rattle.sgt_notation.specs.declared.SectionLine.TheVariants.{Site, Initial, Logged, Final, End}
use Rattle.sgt_notation.proofs.OneSpelling.{cut_at_byte, line-one, line-one_line}
use Rattle.sgt_explain_lines.specs.declared.section.Section.{Section}
use Rattle.sgt_explain_lines.specs.Numbered.{IsLineAt, HasLine, with_line, open_lines, with_site, open_site, stated_in, logged_in, final_stated_in, last_line, items_with, entries_with, finals_with, IsSectionOf, HasOneMore}
use Rattle.sgt_notation.proofs.Texts.{line_front}
use Rattle.sgt_notation.proofs.Short.{line-no_lf}

-- ---- texts

-- a line is cut off in one way
pub line-cut : (l m r s bytes : List ℕ) → HasNoLf l → HasNoLf m → bytes ≡ l ++ 10 ∷ r → bytes ≡ m ++ 10 ∷ s
    → (l ≡ m) × (r ≡ s)
line-cut l m r s bytes h g e f =
    cut_at_byte 10 l m r s (recursion_from_All (λ b. b ≢ 10) l h) (recursion_from_All (λ b. b ≢ 10) m g) (sym e ∙ f)

-- a loop's line of a text of lines: what it cuts off, and what stands behind it
pub record IsCut (lines : List (List ℕ)) (rest : List ℕ) (n : ℕ) (text behind : List ℕ) : Type 0 where
  pub line : List ℕ
  pub at : slice_get lines n ≡ Some line
  pub cut : text ≡ line
  pub left : behind ≡ text_of_lines (drop (n + 1) lines) ++ rest

pub line-step : (lines : List (List ℕ)) (rest now text behind : List ℕ) (n : ℕ) → All HasNoLf lines → n < length lines
    → now ≡ text_of_lines (drop n lines) ++ rest
    → ((line more : List ℕ) → HasNoLf line → now ≡ line ++ 10 ∷ more → (text ≡ line) × (behind ≡ more))
    → IsCut lines rest n text behind
line-step lines rest now text behind n plain within is cuts =
    let at = within_at lines n within in
    let front = is ∙ ap (λ ls. text_of_lines ls ++ rest) (drop_next lines n at.0 at.1)
    ∙ line_front at.0 (drop (n + 1) lines) rest in
    let cut = cuts at.0 (text_of_lines (drop (n + 1) lines) ++ rest) (All_at HasNoLf lines n at.0 plain at.1) front in
    record { line = at.0; at = at.1; cut = cut.0; left = cut.1 }

-- nothing is left where the bytes are over
pub nothing-left : (lines : List (List ℕ)) (rest : List ℕ) → text_of_lines lines ++ rest ≡ [] → rest ≡ []
nothing-left [] rest e = e
nothing-left (l ∷ ls) rest e = absurd (no_line l (text_of_lines ls ++ rest) (sym (line_front l ls rest) ∙ e))
  where
    no_line : (l more : List ℕ) → l ++ 10 ∷ more ≡ [] → ⊥
    no_line [] more e = cc
    no_line (x ∷ l) more e = cc

-- the bytes behind all lines
pub all-passed : (lines : List (List ℕ)) (rest now : List ℕ) (n : ℕ) → length lines ≤ n
    → now ≡ text_of_lines (drop n lines) ++ rest → now ≡ rest
all-passed lines rest now n most is = is ∙ ap (λ ls. text_of_lines ls ++ rest) (drop_all n lines most)

-- ---- lines of sections

pub lines-plain : (before : List SectionLine) → All IsLine before → All HasNoLf (map line_text before)
lines-plain before spelled =
    All-from_map HasNoLf line_text before (All-weaken IsLine (λ l. HasNoLf (line_text l)) before line-no_lf spelled)

-- a loop's line of a section
pub record IsLineStep (before : List SectionLine) (rest : List ℕ) (n : ℕ) (text behind : List ℕ) : Type 0 where
  pub line : SectionLine
  pub at : slice_get before n ≡ Some line
  pub is : IsLine line
  pub cut : text ≡ line_text line
  pub left : behind ≡ text_of_lines (drop (n + 1) (map line_text before)) ++ rest

pub section-step : (before : List SectionLine) (rest now text behind : List ℕ) (n : ℕ) → All IsLine before
    → n < length before
    → now ≡ text_of_lines (drop n (map line_text before)) ++ rest
    → ((line more : List ℕ) → HasNoLf line → now ≡ line ++ 10 ∷ more → (text ≡ line) × (behind ≡ more))
    → IsLineStep before rest n text behind
section-step before rest now text behind n spelled within is cuts =
    let long : length (map line_text before) ≡ length before = length-map before line_text in
    let s = line-step (map line_text before) rest now text behind n (lines-plain before spelled)
    (omega (arith, long, within)) is cuts in
    let l = map_at line_text before n s.line s.at in
    record { line = l.0; at = l.1; is = All_at IsLine before n l.0 spelled l.1; cut = s.cut ∙ sym l.2; left = s.left }

-- the line of a number
pub line-at : (bytes after text behind : List ℕ) (number k : ℕ) (before : List SectionLine) (line : SectionLine)
    → HasLine bytes number before line → k ≡ number - 1
    → ((lines : List (List ℕ)) (rest : List ℕ) → All HasNoLf lines → k ≡ length lines
    → bytes ≡ text_of_lines lines ++ rest → after ≡ rest)
    → ((line more : List ℕ) → HasNoLf line → after ≡ line ++ 10 ∷ more → (text ≡ line) × (behind ≡ more))
    → text ≡ line_text line
line-at bytes after text behind number k before line h is passes cuts =
    let lines = h.head ++ map line_text before in
    let rest = line_text line ++ 10 ∷ h.rest in
    let long : length lines ≡ length h.head + length (map line_text before) =
    length-append h.head (map line_text before) in
    let same : length (map line_text before) ≡ length before = length-map before line_text in
    let two = h.two in
    let counted = h.counted in
    let plain = All-append HasNoLf h.head (map line_text before) h.whole (lines-plain before h.spelled) in
    let whole : bytes ≡ text_of_lines lines ++ rest =
    h.text ∙ sym (append_assoc (text_of_lines h.head) (text_of_lines (map line_text before)) rest)
    ∙ ap (λ t. t ++ rest) (sym (flat_map-append (λ l. l ++ 10 ∷ []) h.head (map line_text before))) in
    let after-is = passes lines rest plain (omega (arith, is, long, same, two, counted)) whole in
    (cuts (line_text line) h.rest (line-no_lf line h.one) after-is).0

-- what holds by a read line holds by the line that is spelled
pub on-ok : {T E : Type 0} (r : Result T E) (P Q : Type 0) → (P → Q) → OnOk r P → OnOk r Q
on-ok (Ok t) P Q f p = f p
on-ok (Err e) P Q f p = tt

-- ---- one more line

pub numbers-append : (n : ℕ) (xs ys : List SectionLine)
    → enumerate_from n (xs ++ ys) ≡ enumerate_from n xs ++ enumerate_from (n + length xs) ys
numbers-append n [] ys = ap (λ k. enumerate_from k ys) (omega arith)
numbers-append n (x ∷ xs) ys =
    let e : n + 1 + length xs ≡ n + suc (length xs) = omega arith in
    ap (λ ps. (n, x) ∷ ps) (numbers-append (n + 1) xs ys ∙ ap (λ k. enumerate_from (n + 1) xs ++ enumerate_from k ys) e)

open-next : (before : List SectionLine) (line : SectionLine)
    → open_lines (before ++ line ∷ []) ≡ with_line (open_lines before) (3 + length before, line)
open-next before line = ap (fold with_line []) (numbers-append 3 before (line ∷ []))
    ∙ fold-append with_line [] (enumerate_from 3 before) ((3 + length before, line) ∷ [])

site-next : (before : List SectionLine) (line : SectionLine)
    → open_site (before ++ line ∷ []) ≡ with_site (open_site before) line
site-next before line = fold-append with_site None before (line ∷ [])

items-step : (section : List (ℕ × SectionLine)) (n : ℕ) (line : SectionLine)
    → filter_map stated_in (with_line section (n, line)) ≡ items_with (filter_map stated_in section) n line
items-step section n (Site k) = refl
items-step section n (Initial h) = filter_map-append stated_in section ((n, Initial h) ∷ [])
items-step section n (Logged e) = filter_map-append stated_in section ((n, Logged e) ∷ [])
    ∙ append-nil (filter_map stated_in section)
items-step section n (Final h) = filter_map-append stated_in section ((n, Final h) ∷ [])
    ∙ append-nil (filter_map stated_in section)
items-step section n End = filter_map-append stated_in section ((n, End) ∷ [])
    ∙ append-nil (filter_map stated_in section)

entries-step : (section : List (ℕ × SectionLine)) (n : ℕ) (line : SectionLine)
    → filter_map logged_in (with_line section (n, line)) ≡ entries_with (filter_map logged_in section) n line
entries-step section n (Site k) = refl
entries-step section n (Logged e) = filter_map-append logged_in section ((n, Logged e) ∷ [])
entries-step section n (Initial h) = filter_map-append logged_in section ((n, Initial h) ∷ [])
    ∙ append-nil (filter_map logged_in section)
entries-step section n (Final h) = filter_map-append logged_in section ((n, Final h) ∷ [])
    ∙ append-nil (filter_map logged_in section)
entries-step section n End = filter_map-append logged_in section ((n, End) ∷ [])
    ∙ append-nil (filter_map logged_in section)

finals-step : (section : List (ℕ × SectionLine)) (n : ℕ) (line : SectionLine)
    → filter_map final_stated_in (with_line section (n, line)) ≡ finals_with (filter_map final_stated_in section) n line
finals-step section n (Site k) = refl
finals-step section n (Final h) = filter_map-append final_stated_in section ((n, Final h) ∷ [])
finals-step section n (Initial h) = filter_map-append final_stated_in section ((n, Initial h) ∷ [])
    ∙ append-nil (filter_map final_stated_in section)
finals-step section n (Logged e) = filter_map-append final_stated_in section ((n, Logged e) ∷ [])
    ∙ append-nil (filter_map final_stated_in section)
finals-step section n End = filter_map-append final_stated_in section ((n, End) ∷ [])
    ∙ append-nil (filter_map final_stated_in section)

last-next : (before : List SectionLine) (line : SectionLine) → last_line (before ++ line ∷ []) ≡ Some line
last-next before line =
    let long : length (before ++ line ∷ []) ≡ length before + 1 = length-append before (line ∷ []) in
    let place : length (before ++ line ∷ []) - 1 ≡ length before = omega (arith, long) in
    ap (slice_get (before ++ line ∷ [])) place ∙ middle_at before line []

pub section-next : (before : List SectionLine) (line : SectionLine) (n : ℕ) (old new : Section)
    → IsSectionOf before old → n ≡ length before + 3 → HasOneMore old new n line → IsSectionOf (before ++ line ∷ []) new
section-next before line n old new is at more =
    let number : n ≡ 3 + length before = omega (arith, at) in
    record {
      site = more.site ∙ ap (λ s. with_site s line) is.site ∙ sym (site-next before line);
      items = more.items ∙ ap₂ (λ xs k. items_with xs k line) is.items number
          ∙ sym (items-step (open_lines before) (3 + length before) line)
          ∙ ap (filter_map stated_in) (sym (open-next before line));
      entries = more.entries ∙ ap₂ (λ xs k. entries_with xs k line) is.entries number
          ∙ sym (entries-step (open_lines before) (3 + length before) line)
          ∙ ap (filter_map logged_in) (sym (open-next before line));
      finals = more.finals ∙ ap₂ (λ xs k. finals_with xs k line) is.finals number
          ∙ sym (finals-step (open_lines before) (3 + length before) line)
          ∙ ap (filter_map final_stated_in) (sym (open-next before line));
      last = more.last ∙ sym (last-next before line);
    }
