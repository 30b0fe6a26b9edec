-- The lines of a text's sections, gone over one by one, with the site that is open there.
use Rattle.std.proofs.Common.{◌≡◌, ◌≢◌, ℕ, zero, suc, ◌+◌, ◌-◌, ◌<◌, ◌≤◌, List, [], ◌∷◌, ◌++◌, length, length-append, map, take, drop, All, Option, Some, None, inl, inr, refl, sym, subst, ap, ap₂, ◌∙◌, arith, append_assoc}
use Rattle.std.specs.Prelude.{fold, slice_get, unwrap_or, ◌⊎◌}
use Rattle.std.specs.List.{filter_map, enumerate_from, cons_option}
use Rattle.std.proofs.lemmas.Bool.{cases_lt}
use Rattle.std.proofs.lemmas.Grind.{flat_map-append}
use Rattle.std.proofs.lemmas.List.{length-take-le, drop_all, length-map, length-drop}
use Rattle.std.proofs.lemmas.List.Elements.{filter_map-append, All-append}
use Rattle.std.proofs.lemmas.List.Sums.{fold-append}
use Rattle.std.proofs.lemmas.Option.{slice_get_within}
use Rattle.sgt_names.proofs.Lists.{take_next, map_at, back_at}
use Rattle.sgt_names.proofs.Places.{All_at}
use Rattle.sgt_notation.specs.Spelling.{line_text, text_of_lines, IsLine, HasNoLf}
use Rattle.sgt_notation.specs.declared.SectionLine.{SectionLine}
use Rattle.sgt_notation.specs.declared.SectionLine.TheVariants.{Site, Initial, Logged, Final, End}
use Rattle.sgt_explain_lines.proofs.Numbering.{numbers-append, IsCut, line-step, lines-plain}
use Rattle.sgt_explain_lines.specs.Numbered.{open_site, with_site, site_behind}
use Rattle.sgt_explain_lines.specs.Sited.{HasLines, HasBefore, site_at}

-- the site behind one more line
pub site-next : (lines : List SectionLine) (n : ℕ) (line : SectionLine) → slice_get lines n ≡ Some line
    → site_at lines (n + 1) ≡ site_behind (site_at lines n) line
site-next lines n line at =
    ap (λ ls. unwrap_or (open_site ls) 0) (take_next lines n line at)
    ∙ ap (λ o. unwrap_or o 0) (fold-append with_site None (take n lines) (line ∷ []))
    ∙ step (open_site (take n lines)) line
  where
    step : (o : Option ℕ) (l : SectionLine) → unwrap_or (with_site o l) 0 ≡ site_behind (unwrap_or o 0) l
    step o (Site k) = refl
    step o (Initial h) = refl
    step o (Logged e) = refl
    step o (Final h) = refl
    step o End = refl

-- what is taken of each line with its place, with one more
pub taken-next : {A : Type 0} (f : ℕ × SectionLine → Option A) (lines : List SectionLine) (n : ℕ) (line : SectionLine)
    → slice_get lines n ≡ Some line
    → filter_map f (enumerate_from 0 (take (n + 1) lines)) ≡ filter_map f (enumerate_from 0 (take n lines))
    ++ cons_option (f (n, line)) []
taken-next f lines n line at =
    let within = slice_get_within lines n line at in
    let long : length (take n lines) ≡ n = length-take-le n lines (omega (arith, within)) in
    ap (λ ls. filter_map f (enumerate_from 0 ls)) (take_next lines n line at)
    ∙ ap (filter_map f) (numbers-append 0 (take n lines) (line ∷ [])
    ∙ ap (λ k. enumerate_from 0 (take n lines) ++ (k, line) ∷ []) (let e : 0 + length (take n lines) ≡ n =
    omega (arith, long) in e))
    ∙ filter_map-append f (enumerate_from 0 (take n lines)) ((n, line) ∷ [])

-- ---- a loop over the lines of a text

-- all lines of the text: its first two, and those of sections
abbrev pub all_lines : (bytes : List ℕ) (number : ℕ) (lines : List SectionLine) → HasLines bytes number lines
    → List (List ℕ)
all_lines bytes number lines h = h.head ++ map line_text lines

-- before the line of this number what is left begins with it, and the site is the one that is open there
pub record IsGone (bytes : List ℕ) (number : ℕ) (lines : List SectionLine) (h : HasLines bytes number lines)
    (line : ℕ) (rest : List ℕ) (site : ℕ) : Type 0 where
  pub left : rest ≡ text_of_lines (drop (line - 1) (all_lines bytes number lines h)) ++ h.rest
  pub inside : site ≡ site_at lines (line - 3)
  pub more : 1 < line → rest ≢ []

pub gone-none : (bytes : List ℕ) (number : ℕ) (lines : List SectionLine) (h : HasLines bytes number lines)
    → IsGone bytes number lines h 1 bytes 0
gone-none bytes number lines h = record {
  left = h.text ∙ sym (append_assoc (text_of_lines h.head) (text_of_lines (map line_text lines)) h.rest)
      ∙ ap (λ t. t ++ h.rest) (sym (flat_map-append (λ l. l ++ 10 ∷ []) h.head (map line_text lines)));
  inside = refl;
  more = λ less. absurd (omega (arith, less));
}

-- the line is one of the first two
pub record IsHeadLine (bytes : List ℕ) (number : ℕ) (lines : List SectionLine) (h : HasLines bytes number lines)
    (line : ℕ) (behind : List ℕ) : Type 0 where
  pub low : line ≤ 2
  pub left : behind ≡ text_of_lines (drop (line + 1 - 1) (all_lines bytes number lines h)) ++ h.rest

-- the line is one of a section
pub record IsSited (bytes : List ℕ) (number : ℕ) (lines : List SectionLine) (h : HasLines bytes number lines)
    (line : ℕ) (text behind : List ℕ) : Type 0 where
  pub high : 2 < line
  pub one : SectionLine
  pub there : slice_get lines (line - 3) ≡ Some one
  pub is : IsLine one
  pub spelled : text ≡ line_text one
  pub left : behind ≡ text_of_lines (drop (line + 1 - 1) (all_lines bytes number lines h)) ++ h.rest

pub gone-step : (bytes : List ℕ) (number : ℕ) (lines : List SectionLine) (h : HasLines bytes number lines) (line : ℕ)
    (rest : List ℕ) (site : ℕ) (text behind : List ℕ)
    → IsGone bytes number lines h line rest site → 1 ≤ line → line < number
    → ((one more : List ℕ) → HasNoLf one → rest ≡ one ++ 10 ∷ more → (text ≡ one) × (behind ≡ more))
    → IsHeadLine bytes number lines h line behind ⊎ IsSited bytes number lines h line text behind
gone-step bytes number lines h line rest site text behind gone low less cuts =
    let all = all_lines bytes number lines h in
    let plain : All HasNoLf all =
    All-append HasNoLf h.head (map line_text lines) h.whole (lines-plain lines h.spelled) in
    let same : length (map line_text lines) ≡ length lines = length-map lines line_text in
    let long : length all ≡ length h.head + length (map line_text lines) = length-append h.head (map line_text lines) in
    let two = h.two in
    let within : line - 1 < length all = elim h.ends [
      | inl e ↦ omega (arith, e, less, low, long, two, same)
      | inr none ↦ elim (cases_lt (line - 1) (length all)) [
        | inl inside ↦ inside
        | inr beyond ↦ absurd (empty-then gone.left (gone.more (omega (arith, beyond, long, two, low))) beyond none.0)
      ]
    ] in
    let s = line-step all h.rest rest text behind (line - 1) plain within gone.left cuts in
    let next : line - 1 + 1 ≡ line + 1 - 1 = omega (arith, low) in
    let left = s.left ∙ ap (λ k. text_of_lines (drop k all) ++ h.rest) next in
    elim (cases_lt 2 line) [
      | inl high ↦ (let at = map_at line_text lines (line - 3) s.line (behind-head high s.at) in
          inr (record {
            high = high;
            one = at.0;
            there = at.1;
            is =
                All_at IsLine lines (line - 3) at.0 h.spelled at.1;
            spelled = s.cut ∙ sym at.2;
            left = left;
          }))
      | inr low' ↦ inl (record { low = low'; left = left })
    ]
  where
    empty-then : rest ≡ text_of_lines (drop (line - 1) (all_lines bytes number lines h)) ++ h.rest → rest ≢ []
        → length (all_lines bytes number lines h) ≤ line - 1 → h.rest ≡ [] → ⊥
    empty-then is some beyond none =
        some (is ∙ ap (λ ls. text_of_lines ls ++ h.rest) (drop_all (line - 1) (all_lines bytes number lines h) beyond)
        ∙ none)

    behind-head : {l : List ℕ} → 2 < line → slice_get (all_lines bytes number lines h) (line - 1) ≡ Some l
        → slice_get (map line_text lines) (line - 3) ≡ Some l
    behind-head high at =
        let two = h.two in
        let place : line - 1 ≡ length h.head + (line - 3) = omega (arith, high, two) in
        sym (back_at h.head (map line_text lines) (line - 3))
        ∙ ap (slice_get (all_lines bytes number lines h)) (sym place) ∙ at

-- behind the loop, or where nothing is left, all lines are gone over
text-nil : (ls : List (List ℕ)) (rest : List ℕ) → text_of_lines ls ++ rest ≡ [] → ls ≡ []
text-nil [] rest e = refl
text-nil ([] ∷ ls) rest e = absurd cc
text-nil ((b ∷ l) ∷ ls) rest e = absurd cc

pub gone-all : (bytes : List ℕ) (number : ℕ) (lines : List SectionLine) (h : HasLines bytes number lines) (line : ℕ)
    (behind : List ℕ) → 1 ≤ line
    → behind ≡ text_of_lines (drop (line + 1 - 1) (all_lines bytes number lines h)) ++ h.rest → behind ≡ []
    → length lines ≤ line + 1 - 3
gone-all bytes number lines h line behind low left none =
    let all = all_lines bytes number lines h in
    let gone = ap length (text-nil (drop (line + 1 - 1) all) h.rest (sym left ∙ none)) in
    let same : length (map line_text lines) ≡ length lines = length-map lines line_text in
    let long : length all ≡ length h.head + length (map line_text lines) = length-append h.head (map line_text lines) in
    let two = h.two in
    omega (arith, gone, same, long, two, length-drop (line + 1 - 1) all)

pub gone-end : (bytes : List ℕ) (number : ℕ) (lines : List SectionLine) (h : HasLines bytes number lines) (line : ℕ)
    → number ≤ line → length lines ≤ line - 3
gone-end bytes number lines h line most =
    elim h.ends [ inl e ↦ omega (arith, e, most) | inr e ↦ (let le = e.1 in omega (arith, le, most)) ]
