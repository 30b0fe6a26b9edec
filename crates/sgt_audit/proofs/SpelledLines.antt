-- Sections read from bytes, line by line, against all that the bytes may spell.
use Rattle.std.proofs.Common.{◌≡◌, ℕ, List, [], ◌∷◌, ◌++◌, length, map, Option, Some, None, Bool, true, false, IsTrue, refl, sym, ap, ap₂, ◌∙◌, subst, subst₂, arith, append_assoc, All}
use Rattle.std.specs.Prelude.{◌↔◌}
use Rattle.std.specs.Option.{SomeIff}
use Rattle.std.proofs.lemmas.Bool.{false≢true}
use Rattle.std.specs.List.{AllByRecursion}
use Rattle.std.proofs.lemmas.List.{append-nil, map-append}
use Rattle.std.proofs.lemmas.List.Elements.{recursion_from_All, All-push}
use Rattle.sgt_notation.specs.Spelling.{line_text, text_of_lines, HasNoLf, IsLine}
use Rattle.sgt_notation.specs.declared.SectionLine.{SectionLine}
use Rattle.sgt_notation.proofs.OneSpelling.{cut_at_byte, line-one, line-one_line}
use Rattle.sgt_bundle.specs.Parts.{FitTogether, Parts}
use Rattle.sgt_bundle.specs.Text.{certificate_text, format_line, text_in, sections_from, Begins, AreSections, IsCertificate, Spells}
use Rattle.sgt_bundle.specs.declared.certificate.Certificate.{Certificate}
use Rattle.sgt_bundle.proofs.OneText.{format-one_line, lines_front, lines-one, logs-from_lines, sections-lines}
use Rattle.sgt_bundle.proofs.OneLine.{certificate-one_line}
use Rattle.sgt_audit.specs.Faults.{IsLineIn}
use Rattle.sgt_audit.specs.Reading.{Begun, open_lines, lines_read}
use Rattle.sgt_audit.specs.Spelled.{AnswersBundle}
use Rattle.sgt_audit.specs.private.SpelledSections.{AreSpelled, SpellsSections}
use Rattle.sgt_bundle.specs.declared.bundle.SiteLog.{SiteLog}
use Rattle.sgt_audit.proofs.Fitting.{fit-together}
use Rattle.sgt_audit.proofs.Formats.{format-one, lines-of, lines-allowed, logs-allowed}
use Rattle.sgt_audit.proofs.OneFault.{has_lf}
use Rattle.sgt_audit.proofs.MayFollow.{are-sections, sections-whole}
use Rattle.sgt_notation.proofs.Texts.{first_line, has_no_lf, text-one_line}
use Rattle.sgt_names.proofs.Elements.{no_line}

-- the lines that were read, and then what is left
pub record IsAhead (second : Bool) (sites : ℕ) (bytes : List ℕ) (b : Begun) (rest : List ℕ) : Type 0 where
  pub sites_are : b.sites ≡ sites
  pub each : All (IsLineIn second) (lines_read b)
  pub text : bytes ≡ text_of_lines (map line_text (lines_read b)) ++ rest

module _ (second : Bool) (sites : ℕ) (bytes : List ℕ) (b : Begun) (rest : List ℕ)
    (a : IsAhead second sites bytes b rest) (lines : List SectionLine) (s : SpellsSections second sites bytes lines)
  where
    -- what is left is the rest of the lines
    left : (more : List SectionLine) × (lines ≡ lines_read b ++ more) × (rest ≡ text_of_lines (map line_text more))
    left = lines_front (lines_read b) lines rest (lines-of second (lines_read b) a.each) (lines-of second lines s.each)
        (sym a.text ∙ s.text)

    -- nothing is left behind all sections
    none-left : (more : List SectionLine) → lines ≡ lines_read b ++ more → rest ≡ text_of_lines (map line_text more)
        → rest ≡ [] → AreSections b.sites (lines_read b)
    none-left [] same text none =
        subst (λ n. AreSections n (lines_read b)) (sym a.sites_are) (subst (AreSections sites) (same
        ∙ append-nil (lines_read b)) s.all)
    none-left (l ∷ more) same text none =
        absurd (no_line (line_text l) (text_of_lines (map line_text more))
        (sym (first_line (line_text l) (map line_text more)) ∙ sym text ∙ none))

    pub ended-all : rest ≡ [] → AreSections b.sites (lines_read b)
    ended-all none = none-left left.0 left.1 left.2 none

    -- with no LF nothing is left
    no-rest : (more : List SectionLine) → rest ≡ text_of_lines (map line_text more) → HasNoLf rest → rest ≡ []
    no-rest [] text none = text
    no-rest (l ∷ more) text none =
        absurd (has_lf (line_text l) (text_of_lines (map line_text more))
        (subst HasNoLf (text ∙ first_line (line_text l) (map line_text more)) none))

    pub cut-none : HasNoLf rest → rest ≡ []
    cut-none none = no-rest left.0 left.2 none

    -- the next line is the next of these
    module _ (line : List ℕ) (after : List ℕ) (none : HasNoLf line) (cut : rest ≡ line ++ 10 ∷ after) where
      next-of : (more : List SectionLine) → lines ≡ lines_read b ++ more → rest ≡ text_of_lines (map line_text more)
          → (l : SectionLine) × (later : List SectionLine) × (line ≡ line_text l) × IsLineIn second l
          × (lines ≡ lines_read b ++ l ∷ later)
      next-of [] same text = absurd (no_line line after (sym cut ∙ text))
      next-of (l ∷ later) same text =
          let is = one-spelled l later
          (subst (AllByRecursion (IsLineIn second)) same (recursion_from_All (IsLineIn second) lines s.each)) in (
            l,
            later,
            (cut_at_byte 10 line (line_text l) after (text_of_lines (map line_text later)) (has_no_lf line none)
                (line-one_line l is.0) (sym cut ∙ text ∙ first_line (line_text l) (map line_text later))).0,
            is,
            same,
          )
        where
          behind : (xs ys : List SectionLine) → AllByRecursion (IsLineIn second) (xs ++ ys)
              → AllByRecursion (IsLineIn second) ys
          behind [] ys h = h
          behind (x ∷ xs) ys h = behind xs ys h.1

          one-spelled : (l : SectionLine) (later : List SectionLine)
              → AllByRecursion (IsLineIn second) (lines_read b ++ l ∷ later) → IsLineIn second l
          one-spelled l later h = (behind (lines_read b) (l ∷ later) h).0

      pub next-line : (l : SectionLine) × (later : List SectionLine) × (line ≡ line_text l) × IsLineIn second l
          × (lines ≡ lines_read b ++ l ∷ later)
      next-line = next-of left.0 left.1 left.2

      -- it is one that may go on
      pub next-begins : (read : SectionLine) → IsLineIn second read → line ≡ line_text read
          → Begins b.sites (lines_read b ++ read ∷ [])
      next-begins read is same =
          let n = next-line in
          let one = line-one read n.0 is.0 n.3.0 (sym same ∙ n.2) in
          subst (λ k. Begins k (lines_read b ++ read ∷ [])) (sym a.sites_are) (
            s.all.0,
            n.1,
            s.all.1,
            s.all.2 ∙ n.4 ∙ ap (λ l. lines_read b ++ l ∷ n.1) (sym one)
                ∙ sym (append_assoc (lines_read b) (read ∷ []) n.1),
          )

-- all is read: these are all sections, or the bytes spell none
pub all-spelled : (second : Bool) (sites : ℕ) (bytes : List ℕ) (b : Begun) (rest : List ℕ)
    → IsAhead second sites bytes b rest → (all : Bool) → IsTrue all ↔ AreSections b.sites (lines_read b) → rest ≡ []
    → AreSpelled all second sites bytes (lines_read b)
all-spelled second sites bytes b rest a true both none = record {
  each = a.each;
  all = subst (λ n. AreSections n (lines_read b)) a.sites_are (both.0 refl);
  text = a.text ∙ ap (λ (t : List ℕ). text_of_lines (map line_text (lines_read b)) ++ t) none
      ∙ append-nil (text_of_lines (map line_text (lines_read b)));
}
all-spelled second sites bytes b rest a false both none =
    λ lines s. false≢true (both.1 (ended-all second sites bytes b rest a lines s none))

-- nothing is read
pub ahead-none : (second : Bool) (bytes : List ℕ) (b : Begun) → lines_read b ≡ [] → IsAhead second b.sites bytes b bytes
ahead-none second bytes b none = record {
  sites_are = refl;
  each = subst (All (IsLineIn second)) (sym none) (λ k d lt. absurd (omega arith));
  text = ap (λ ls. text_of_lines (map line_text ls) ++ bytes) (sym none);
}

-- one more line
pub ahead-next : (second : Bool) (sites : ℕ) (bytes : List ℕ) (b new : Begun) (rest line after : List ℕ)
    (read : SectionLine) → IsAhead second sites bytes b rest → rest ≡ line ++ 10 ∷ after → IsLineIn second read
    → line ≡ line_text read
    → new.sites ≡ b.sites → lines_read new ≡ lines_read b ++ read ∷ [] → IsAhead second sites bytes new after
ahead-next second sites bytes b new rest line after read a cut is same sites_same lines = record {
  sites_are = sites_same ∙ a.sites_are;
  each = subst (All (IsLineIn second)) (sym lines) (All-push (IsLineIn second) (lines_read b) read a.each is);
  text = a.text ∙ ap (λ (t : List ℕ). text_of_lines (map line_text (lines_read b)) ++ t) (cut
      ∙ ap (λ (l : List ℕ). l ++ 10 ∷ after) same)
      ∙ sym (text-one_line (map line_text (lines_read b)) (line_text read) after)
      ∙ ap (λ ls. text_of_lines ls ++ after) (sym (ap (map line_text) lines
      ∙ map-append line_text (lines_read b) (read ∷ [])));
}

-- ---- the first two lines

pub sections-same : (second : Bool) (sites : ℕ) (bytes : List ℕ) (xs ys : List SectionLine)
    → SpellsSections second sites bytes xs → SpellsSections second sites bytes ys → xs ≡ ys
sections-same second sites bytes xs ys s t =
    lines-one xs ys (lines-of second xs s.each) (lines-of second ys t.each) (sym s.text ∙ t.text)

module _ (bytes : List ℕ) (b : Parts) (s : Spells bytes b) where
  abbrev format : List ℕ
  format = format_line s.second

  abbrev body : List ℕ
  body = text_of_lines (map line_text (sections_from 0 b.sites))

  first-text : bytes ≡ format ++ 10 ∷ (certificate_text b.certificate ++ 10 ∷ body)
  first-text = s.text ∙ first_line format (certificate_text b.certificate ∷ map line_text (sections_from 0 b.sites))
      ∙ ap (λ (t : List ℕ). format ++ 10 ∷ t)
      (first_line (certificate_text b.certificate) (map line_text (sections_from 0 b.sites)))

  pub some-line : HasNoLf bytes → ⊥
  some-line none = has_lf format (certificate_text b.certificate ++ 10 ∷ body) (subst HasNoLf first-text none)

  module _ (line rest : List ℕ) (none : HasNoLf line) (cut : bytes ≡ line ++ 10 ∷ rest) where
    first-cut : (line ≡ format) × (rest ≡ certificate_text b.certificate ++ 10 ∷ body)
    first-cut = cut_at_byte 10 line format rest (certificate_text b.certificate ++ 10 ∷ body) (has_no_lf line none)
        (format-one_line s.second) (sym cut ∙ first-text)

    pub first-is : line ≡ format
    first-is = first-cut.0

    pub some-second : HasNoLf rest → ⊥
    some-second none = has_lf (certificate_text b.certificate) body (subst HasNoLf first-cut.1 none)

    module _ (second behind : List ℕ) (one : HasNoLf second) (next : rest ≡ second ++ 10 ∷ behind) where
      second-cut : (second ≡ certificate_text b.certificate) × (behind ≡ body)
      second-cut = cut_at_byte 10 second (certificate_text b.certificate) behind body (has_no_lf second one)
          (certificate-one_line b.certificate s.certificate) (sym next ∙ first-cut.1)

      pub second-is : second ≡ certificate_text b.certificate
      second-is = second-cut.0

      pub spells-sections : (f : Bool) (c : Certificate) → line ≡ format_line f → c ≡ b.certificate
          → SpellsSections f c.sites behind (sections_from 0 b.sites)
      spells-sections f c is same = subst₂ (λ f c. SpellsSections f c.sites behind (sections_from 0 b.sites))
          (format-one s.second f (sym first-is ∙ is)) (sym same) (record {
            each = lines-allowed s.second 0 b.sites
                (sections-lines 0 b.sites (omega (arith, s.shape.each, s.shape.few)) s.logs) s.allowed;
            all = (b.sites, s.shape, refl);
            text = second-cut.1;
          })

-- a bundle whose sections were read
module _ (f : Bool) (bytes format-line rest second behind : List ℕ) (c : Certificate) (r : Begun)
    (logs : List SiteLog) (first : bytes ≡ format-line ++ 10 ∷ rest) (is : format-line ≡ format_line f)
    (next : rest ≡ second ++ 10 ∷ behind) (certified : second ≡ certificate_text c)
    (read : SpellsSections f c.sites behind (lines_read r)) (sites : r.sites ≡ c.sites) (whole : logs ≡ r.whole) where
  abbrev bundle : Parts
  bundle = record { certificate = c; sites = logs }

  lines-are : lines_read r ≡ sections_from 0 logs
  lines-are =
      let done = are-sections r (subst (λ n. AreSections n (lines_read r)) (sym sites) read.all) in
      ap (λ o. sections_from 0 r.whole ++ open_lines (length r.whole) o) done.0 ∙ append-nil (sections_from 0 r.whole)
      ∙ ap (sections_from 0) (sym whole)

  text-is : bytes ≡ text_in f bundle
  text-is =
      first ∙ ap₂ (λ (l t : List ℕ). l ++ 10 ∷ t) is (next ∙ ap₂ (λ (l t : List ℕ). l ++ 10 ∷ t) certified (read.text
      ∙ ap (λ ls. text_of_lines (map line_text ls)) lines-are)
      ∙ sym (first_line (certificate_text c) (map line_text (sections_from 0 logs))))
      ∙ sym (first_line (format_line f) (certificate_text c ∷ map line_text (sections_from 0 logs)))

  pub read-spells : IsCertificate c → FitTogether bundle → Spells bytes bundle
  read-spells certificate fit = record {
    certificate = certificate;
    shape = fit.shape;
    logs = logs-from_lines 0 logs (subst (AllByRecursion IsLine) lines-are (lines-of f (lines_read r) read.each));
    second = f;
    allowed = logs-allowed f 0 logs (subst (All (IsLineIn f)) lines-are read.each);
    text = text-is;
  }

  -- and no other one
  pub read-only : (b : Parts) → Spells bytes b → HasNoLf format-line → HasNoLf second → c ≡ b.certificate
      → (FitTogether bundle → ⊥) → ⊥
  read-only b s one two same miss =
      let spelled = spells-sections bytes b s format-line rest one first second behind two next f c is same in
      let lines = sections-same f c.sites behind (sections_from 0 b.sites) (lines_read r) spelled read in
      let logs-are : b.sites ≡ logs = sym (sections-whole r b.sites lines).1 ∙ sym whole in
      miss (subst (λ p. FitTogether p) (ap₂ (λ d ls. record { certificate = d; sites = ls }) (sym same) logs-are)
      (fit-together b.certificate b.sites s.certificate s.shape))

pub bundle-answers : (bytes : List ℕ) (found : Option Parts) (v : Parts) → SomeIff found (FitTogether v) v
    → (FitTogether v → Spells bytes v) → ((b : Parts) → Spells bytes b → (FitTogether v → ⊥) → ⊥)
    → AnswersBundle bytes found
bundle-answers bytes None v miss spells only = λ b s. only b s miss
bundle-answers bytes (Some b) v hit spells only = subst (Spells bytes) (sym hit.1) (spells hit.0)
