-- Bytes spell a bundle, or a line, or their end, breaks a rule of spelling.
use Rattle.std.proofs.Common.{◌≡◌, ℕ, zero, suc, ◌<◌, ◌≤◌, Bool, List, [], ◌∷◌, ◌++◌, length, map, refl, sym, ap, ◌∙◌, subst, arith, inl, inr, ◌⊎◌, append_assoc, All}
use Rattle.std.proofs.lemmas.List.{append-nil, map-append, length-append}
use Rattle.std.proofs.lemmas.List.Elements.{recursion_from_All, All-nil, All-push}
use Rattle.std.specs.List.{AllByRecursion}
use Rattle.sgt_notation.specs.Spelling.{line_text, text_of_lines}
use Rattle.sgt_notation.specs.declared.SectionLine.{SectionLine}
use Rattle.sgt_notation.proofs.Decidable.{Decidable}
use Rattle.sgt_notation.proofs.OneSpelling.{cut_at_byte, line-one, line-one_line}
use Rattle.sgt_bundle.specs.Parts.{Parts}
use Rattle.sgt_bundle.specs.Text.{certificate_text, format_line, sections_from, Begins, AreSections, IsCertificate, Spells}
use Rattle.sgt_bundle.specs.declared.certificate.Certificate.{Certificate}
use Rattle.sgt_bundle.proofs.Reading.{certificate-one}
use Rattle.sgt_bundle.proofs.OneLine.{certificate-one_line}
use Rattle.sgt_bundle.proofs.OneText.{format-one_line, lines_front, logs-from_lines, sections-lines, sections-one}
use Rattle.sgt_audit.specs.declared.faults.Fault.{Fault}
use Rattle.sgt_audit.specs.declared.faults.Fault.TheVariants as fault
use Rattle.sgt_audit.specs.Faults.{IsLineIn, Keeps, Stage, start, headed, within, complete, lines_so_far, Piece, whole, last, ComesNext, Rule}
use Rattle.sgt_audit.specs.Misspelled.{AreLinesOf, IsOfSpelling, IsSpelled, Misspells}
use Rattle.sgt_audit.proofs.Formats.{format-one, lines-of, lines-allowed, logs-allowed}
use Rattle.sgt_audit.proofs.MayFollow.{begun-begins}
use Rattle.sgt_audit.proofs.OneFault.{comes_line, one_piece}
use Rattle.sgt_audit.proofs.ReaderAtStage.{piece}
use Rattle.sgt_audit.proofs.decidable.Sections.{HasBegun, none-begun, more-begun, decidable-sections}
use Rattle.sgt_audit.proofs.decidable.Pieces.{HoldsBegun, decidable-within, decidable-certified, decidable-first, decidable-trailing, decidable-last}
use Rattle.sgt_notation.proofs.Texts.{first_line, line_front, text-one_line}

-- ---- bytes that spell a bundle break no rule of spelling

module _ (bytes : List ℕ) (b : Parts) (s : Spells bytes b) where
  abbrev lines : List SectionLine
  lines = sections_from 0 b.sites

  abbrev body : List ℕ
  body = text_of_lines (map line_text lines)

  each-line : All (IsLineIn s.second) lines
  each-line =
      lines-allowed s.second 0 b.sites (sections-lines 0 b.sites (omega (arith, s.shape.each, s.shape.few)) s.logs)
      s.allowed

  behind-first : bytes ≡ format_line s.second ++ 10 ∷ (certificate_text b.certificate ++ 10 ∷ body)
  behind-first =
      s.text ∙ first_line (format_line s.second) (certificate_text b.certificate ∷ map line_text lines)
      ∙ ap (λ (t : List ℕ). format_line s.second ++ 10 ∷ t)
      (first_line (certificate_text b.certificate) (map line_text lines))

  -- the first line
  at-start : (rest : List ℕ) (next : Piece) (f : Fault) → bytes ≡ rest → ComesNext rest next → Rule start next f
  at-start rest next f text comes =
      subst (λ p. Rule start p f)
      (sym (comes_line (format_line s.second) (certificate_text b.certificate ++ 10 ∷ body) rest next
      (format-one_line s.second) (sym text ∙ behind-first) comes)) (holds f)
    where
      holds : (f : Fault) → Rule start (whole (format_line s.second)) f
      holds fault.Format = (s.second, refl)
      holds _ = tt

  module _ (second : Bool) (rest : List ℕ) (text : bytes ≡ format_line second ++ 10 ∷ rest) where
    cut-first : (second ≡ s.second) × (rest ≡ certificate_text b.certificate ++ 10 ∷ body)
    cut-first =
        let cut =
        cut_at_byte 10 (format_line second) (format_line s.second) rest
        (certificate_text b.certificate ++ 10 ∷ body) (format-one_line second) (format-one_line s.second)
        (sym text ∙ behind-first) in
        (format-one second s.second cut.0, cut.1)

    -- the second
    at-second : (next : Piece) (f : Fault) → IsOfSpelling f → ComesNext rest next → Rule (headed second) next f
    at-second next f of comes =
        subst (λ p. Rule (headed second) p f)
        (sym (comes_line (certificate_text b.certificate) body rest next
        (certificate-one_line b.certificate s.certificate) cut-first.1 comes)) (holds f of)
      where
        holds : (f : Fault) → IsOfSpelling f → Rule (headed second) (whole (certificate_text b.certificate)) f
        holds fault.Certificate of = (b.certificate, s.certificate, refl)
        holds fault.Ranks of = absurd of
        holds fault.DecidedTwice of = absurd of
        holds fault.WalkShape of = absurd of
        holds _ of = λ d is e. tt

  -- lines of sections, of one format and one certificate with the bundle
  module _ (before : List SectionLine) (each : All (IsLineIn s.second) before) (rest : List ℕ)
      (text : body ≡ text_of_lines (map line_text before) ++ rest) where
    left : (more : List SectionLine) × (lines ≡ before ++ more) × (rest ≡ text_of_lines (map line_text more))
    left = lines_front before lines rest (lines-of s.second before each) (lines-of s.second lines each-line) (sym text)

    abbrev At : Stage → Type 0
    At stage = (next : Piece) (f : Fault) → IsOfSpelling f → ComesNext rest next → Rule stage next f

    all-there : lines ≡ before ++ [] → AreSections b.certificate.sites before
    all-there same = (b.sites, s.shape, same ∙ append-nil before)

    none-left : rest ≡ [] → At (complete s.second b.certificate before)
    none-left none next f of comes =
        subst (λ p. Rule (complete s.second b.certificate before) p f)
        (one_piece rest (last []) next (subst (λ t. ComesNext t (last [])) (sym none) (
          refl,
          All-nil (λ x. x ≡ 10 → ⊥),
        )) comes) (holds f)
      where
        holds : (f : Fault) → Rule (complete s.second b.certificate before) (last []) f
        holds fault.Trailing = refl
        holds _ = tt

    one-left : (line : SectionLine) (more : List SectionLine) → lines ≡ before ++ line ∷ more
        → rest ≡ text_of_lines (map line_text (line ∷ more)) → At (within s.second b.certificate before)
    one-left line more same is next f of comes =
        subst (λ p. Rule (within s.second b.certificate before) p f)
        (sym (comes_line (line_text line) (text_of_lines (map line_text more)) rest next
        (line-one_line line good.0) (is ∙ first_line (line_text line) (map line_text more)) comes)) (holds f of)
      where
        behind : (xs : List SectionLine) → AllByRecursion (IsLineIn s.second) (xs ++ line ∷ more)
            → IsLineIn s.second line
        behind [] h = h.0
        behind (x ∷ xs) h = behind xs h.1

        good : IsLineIn s.second line
        good = behind before
            (subst (AllByRecursion (IsLineIn s.second)) same (recursion_from_All (IsLineIn s.second) lines each-line))

        begins : Begins b.certificate.sites (before ++ line ∷ [])
        begins = (b.sites, more, s.shape, same ∙ sym (append_assoc before (line ∷ []) more))

        holds : (f : Fault) → IsOfSpelling f → Rule (within s.second b.certificate before) (whole (line_text line)) f
        holds fault.Notation of = (line, good, refl)
        holds fault.Section of =
            λ m is e. subst (λ k. Keeps b.certificate before k fault.Section) (line-one line m good.0 is.0 e) begins
        holds fault.Format of = λ m is e. tt
        holds fault.Certificate of = λ m is e. tt
        holds fault.Truncated of = λ m is e. tt
        holds fault.Trailing of = λ m is e. tt
        holds _ of = absurd of

    at-within : (AreSections b.certificate.sites before → ⊥) → At (within s.second b.certificate before)
    at-within miss = from left.0 left.1 left.2
      where
        from : (more : List SectionLine) → lines ≡ before ++ more → rest ≡ text_of_lines (map line_text more)
            → At (within s.second b.certificate before)
        from [] same is = absurd (miss (all-there same))
        from (line ∷ more) same is = one-left line more same is

    at-complete : AreSections b.certificate.sites before → At (complete s.second b.certificate before)
    at-complete (logs, shaped, all) = from left.0 left.1 left.2
      where
        no_more : (l : SectionLine) (ls : List SectionLine) → l ∷ ls ≡ [] → ⊥
        no_more l ls e = cc

        from : (more : List SectionLine) → lines ≡ before ++ more → rest ≡ text_of_lines (map line_text more)
            → At (complete s.second b.certificate before)
        from [] same is = none-left is
        from (line ∷ more) same is =
            let one = sections-one 0 logs b.sites (line ∷ more) [] (shaped.each
            ∙ sym s.shape.each) (ap (λ (ls : List SectionLine). ls ++ line ∷ more) all ∙ sym same
            ∙ sym (append-nil lines)) in
            absurd (no_more line more one.1)

  -- the format and the certificate are the bundle's
  module _ (second : Bool) (c : Certificate) (before : List SectionLine) (rest : List ℕ)
      (is : AreLinesOf second c before) (text : bytes ≡ text_of_lines (lines_so_far (within second c before)) ++ rest)
    where
      first-two : text_of_lines (lines_so_far (within second c before)) ++ rest ≡ format_line second ++ 10 ∷
          (certificate_text c ++ 10 ∷ (text_of_lines (map line_text before) ++ rest))
      first-two =
          line_front (format_line second) (certificate_text c ∷ map line_text before) rest
          ∙ ap (λ (t : List ℕ). format_line second ++ 10 ∷ t)
          (line_front (certificate_text c) (map line_text before) rest)

      one-format : second ≡ s.second
      one-format = (cut-first second (certificate_text c ++ 10 ∷ (text_of_lines (map line_text before) ++ rest)) (text
          ∙ first-two)).0

      cut-second : (c ≡ b.certificate) × (text_of_lines (map line_text before) ++ rest ≡ body)
      cut-second =
          let front =
          (cut-first second (certificate_text c ++ 10 ∷ (text_of_lines (map line_text before) ++ rest)) (text
          ∙ first-two)).1 in
          let cut =
          cut_at_byte 10 (certificate_text c) (certificate_text b.certificate)
          (text_of_lines (map line_text before) ++ rest) body (certificate-one_line c is.certificate)
          (certificate-one_line b.certificate s.certificate) front in
          (certificate-one c b.certificate is.certificate s.certificate cut.0, cut.1)

      within-kept : (AreSections c.sites before → ⊥) → (next : Piece) (f : Fault) → IsOfSpelling f → ComesNext rest next
          → Rule (within second c before) next f
      within-kept miss next f of comes =
          subst (λ t. Rule (within t c before) next f) (sym one-format)
          (subst (λ d. Rule (within s.second d before) next f) (sym cut-second.0)
          (at-within before (subst (λ t. All (IsLineIn t) before) one-format is.each) rest (sym cut-second.1)
          (λ all. miss (subst (λ d. AreSections d.sites before) (sym cut-second.0) all)) next f of comes))

      complete-kept : AreSections c.sites before → (next : Piece) (f : Fault) → IsOfSpelling f → ComesNext rest next
          → Rule (complete second c before) next f
      complete-kept all next f of comes =
          subst (λ t. Rule (complete t c before) next f) (sym one-format)
          (subst (λ d. Rule (complete s.second d before) next f) (sym cut-second.0)
          (at-complete before (subst (λ t. All (IsLineIn t) before) one-format is.each) rest (sym cut-second.1)
          (subst (λ d. AreSections d.sites before) cut-second.0 all) next f of comes))

  kept-at : (stage : Stage) (rest : List ℕ) (next : Piece) (f : Fault) → IsSpelled stage
      → bytes ≡ text_of_lines (lines_so_far stage) ++ rest → IsOfSpelling f → ComesNext rest next → Rule stage next f
  kept-at start rest next f is text of comes = at-start rest next f text comes
  kept-at (headed second) rest next f is text of comes =
      at-second second rest (text ∙ line_front (format_line second) [] rest) next f of comes
  kept-at (within second c before) rest next f is text of comes =
      within-kept second c before rest is.0 text is.1 next f of comes
  kept-at (complete second c before) rest next f is text of comes =
      complete-kept second c before rest is.0 text is.1 next f of comes

pub misspelled-none : (bytes : List ℕ) (f : Fault) (b : Parts) → Misspells bytes f → Spells bytes b → ⊥
misspelled-none bytes f b m s =
    m.broken (kept-at bytes b s m.stage m.rest m.next f m.spelled m.text m.of_spelling m.comes)

-- ---- bytes without such a line spell a bundle

-- all rules of spelling are kept, or one is broken
abbrev Broken : (Fault → Type 0) → Type 0
Broken rule = (f : Fault) × IsOfSpelling f × (rule f → ⊥)

each-kept : (rule : Fault → Type 0) → rule fault.Format → rule fault.Notation → rule fault.Certificate
    → rule fault.Section → rule fault.Truncated → rule fault.Trailing
    → (f : Fault) → IsOfSpelling f → rule f
each-kept rule r1 r2 r3 r7 r18 r19 fault.Format of = r1
each-kept rule r1 r2 r3 r7 r18 r19 fault.Notation of = r2
each-kept rule r1 r2 r3 r7 r18 r19 fault.Certificate of = r3
each-kept rule r1 r2 r3 r7 r18 r19 fault.Section of = r7
each-kept rule r1 r2 r3 r7 r18 r19 fault.Truncated of = r18
each-kept rule r1 r2 r3 r7 r18 r19 fault.Trailing of = r19
each-kept rule r1 r2 r3 r7 r18 r19 _ of = absurd of

module _ (rule : Fault → Type 0) (decide : (f : Fault) → IsOfSpelling f → Decidable (rule f)) where
  abbrev KeptOrBroken : Type 0
  KeptOrBroken = ((f : Fault) → IsOfSpelling f → rule f) ⊎ Broken rule

  judge : (f : Fault) → IsOfSpelling f → (rule f → KeptOrBroken) → KeptOrBroken
  judge f of others = go (decide f of)
    where
      go : Decidable (rule f) → KeptOrBroken
      go (inl kept) = others kept
      go (inr never) = inr (f, of, never)

  all-or-broken : KeptOrBroken
  all-or-broken =
      judge fault.Format tt
      (λ r1. judge fault.Notation tt (λ r2. judge fault.Certificate tt (λ r3. judge fault.Section tt (λ r7.
      judge fault.Truncated tt (λ r18. judge fault.Trailing tt (λ r19. inl (each-kept rule r1 r2 r3 r7 r18 r19)))))))

decidable-of : (s : Stage) (p : Piece) → HoldsBegun s → (f : Fault) → IsOfSpelling f → Decidable (Rule s p f)
decidable-of start (whole l) held f of = decidable-first l f
decidable-of (headed second) (whole l) held f of = decidable-certified second l f
decidable-of (within second c before) (whole l) held fault.Truncated of = inl (λ line is e. tt)
decidable-of (within second c before) (whole l) held fault.Trailing of = inl (λ line is e. tt)
decidable-of (within second c before) (whole l) held fault.Format of =
    decidable-within second c before held l fault.Format (λ lt. absurd (omega arith))
decidable-of (within second c before) (whole l) held fault.Notation of =
    decidable-within second c before held l fault.Notation (λ lt. absurd (omega arith))
decidable-of (within second c before) (whole l) held fault.Certificate of =
    decidable-within second c before held l fault.Certificate (λ lt. absurd (omega arith))
decidable-of (within second c before) (whole l) held fault.Section of =
    decidable-within second c before held l fault.Section (λ lt. absurd (omega arith))
decidable-of (within second c before) (whole l) held _ of = absurd of
decidable-of (complete second c before) (whole l) held f of = decidable-trailing second c before l f
decidable-of s (last l) held f of = decidable-last s l f

-- a stage whose lines are spelled, and what was read of its sections
record Reached (s : Stage) : Type 0 where
  spelled : IsSpelled s
  begun : HoldsBegun s

some-or-all : (second : Bool) (c : Certificate) (before : List SectionLine) → IsCertificate c
    → All (IsLineIn second) before → HasBegun c before
    → (s : Stage) × Reached s × (lines_so_far s ≡ lines_so_far (within second c before))
some-or-all second c before certificate each held =
    let lines : AreLinesOf second c before = record {
      certificate = certificate;
      each = each;
      begins = subst (λ n. Begins n before) held.sites
          (subst (Begins held.begun.sites) (sym held.lines) (begun-begins held.begun held.is));
    } in
    elim (decidable-sections c before held) [
      | inl all ↦ (complete second c before, record { spelled = (lines, all); begun = tt }, refl)
      | inr more ↦ (within second c before, record { spelled = (lines, more); begun = held }, refl)
    ]

next-stage : (s : Stage) (l : List ℕ) → Reached s → ((f : Fault) → IsOfSpelling f → Rule s (whole l) f)
    → (t : Stage) × Reached t × (lines_so_far t ≡ lines_so_far s ++ l ∷ [])
next-stage start l good rules =
    let first = rules fault.Format tt in
    (headed first.0, record { spelled = tt; begun = tt }, ap (λ x. x ∷ []) (sym first.1))
next-stage (headed second) l good rules =
    let certified = rules fault.Certificate tt in
    let t = some-or-all second certified.0 [] certified.1 (All-nil (IsLineIn second))
    (none-begun certified.0 certified.1) in
    (t.0, t.1, t.2 ∙ ap (λ x. format_line second ∷ x ∷ []) (sym certified.2))
next-stage (within second c before) l good rules =
    let noted = rules fault.Notation tt in
    let line = noted.0 in
    let lines = good.spelled.0 in
    let held = more-begun c before good.begun line (rules fault.Section tt line noted.1 noted.2) in
    let spelled = map-append line_text before (line ∷ []) ∙ ap (λ x. map line_text before ++ x ∷ []) (sym noted.2) in
    let t = some-or-all second c (before ++ line ∷ []) lines.certificate
    (All-push (IsLineIn second) before line lines.each noted.1) held in
    (t.0, t.1, t.2 ∙ ap (λ (ls : List (List ℕ)). format_line second ∷ certificate_text c ∷ ls) spelled)
next-stage (complete second c before) l good rules = absurd (rules fault.Trailing tt)

abbrev Judged : List ℕ → Type 0
Judged bytes = ((b : Parts) × Spells bytes b) ⊎ ((f : Fault) × Misspells bytes f)

-- all sections, and nothing behind them
spells-all : (bytes : List ℕ) (second : Bool) (c : Certificate) (before : List SectionLine)
    → AreLinesOf second c before → AreSections c.sites before
    → bytes ≡ text_of_lines (lines_so_far (complete second c before)) → (b : Parts) × Spells bytes b
spells-all bytes second c before lines (logs, shaped, all) text =
    let each : All (IsLineIn second) (sections_from 0 logs) = subst (All (IsLineIn second)) (sym all) lines.each in (
      record { certificate = c; sites = logs },
      record {
        certificate = lines.certificate;
        shape = shaped;
        logs = logs-from_lines 0 logs (lines-of second (sections_from 0 logs) each);
        second = second;
        allowed = logs-allowed second 0 logs each;
        text = text
            ∙ ap (λ (ls : List SectionLine). text_of_lines
            (format_line second ∷ certificate_text c ∷ map line_text ls)) (sym all);
      },
    )

ends-well : (bytes : List ℕ) (s : Stage) (l : List ℕ) → IsSpelled s → bytes ≡ text_of_lines (lines_so_far s) ++ l
    → ((f : Fault) → IsOfSpelling f → Rule s (last l) f) → Judged bytes
ends-well bytes start l good text rules = absurd (rules fault.Truncated tt)
ends-well bytes (headed second) l good text rules = absurd (rules fault.Truncated tt)
ends-well bytes (within second c before) l good text rules = absurd (rules fault.Truncated tt)
ends-well bytes (complete second c before) l good text rules =
    let lines = text_of_lines (lines_so_far (complete second c before)) in
    inl (spells-all bytes second c before good.0 good.1 (text
    ∙ ap (λ (t : List ℕ). lines ++ t) (rules fault.Trailing tt) ∙ append-nil lines))

module _ (bytes : List ℕ) (s : Stage) (rest : List ℕ) (good : Reached s)
    (text : bytes ≡ text_of_lines (lines_so_far s) ++ rest)
    (further : (t : Stage) (more : List ℕ) → length more < length rest → Reached t
    → bytes ≡ text_of_lines (lines_so_far t) ++ more → Judged bytes) where
  at-piece : (next : Piece) → ComesNext rest next → ((f : Fault) → IsOfSpelling f → Rule s next f) → Judged bytes
  at-piece (last l) comes rules =
      ends-well bytes s l good.spelled (text ∙ ap (λ (t : List ℕ). text_of_lines (lines_so_far s) ++ t) comes.0) rules
  at-piece (whole l) (more, is, one) rules =
      let t = next-stage s l good rules in
      further t.0 more (omega (arith, ap length is, length-append l (10 ∷ more))) t.1
      (text ∙ ap (λ (x : List ℕ). text_of_lines (lines_so_far s) ++ x) is
      ∙ sym (text-one_line (lines_so_far s) l more) ∙ ap (λ ls. text_of_lines ls ++ more) (sym t.2))

  at-rest : Judged bytes
  at-rest =
      let next = piece rest in
      elim (all-or-broken (Rule s next.0) (decidable-of s next.0 good.begun)) [
        | inl rules ↦ at-piece next.0 next.1 rules
        | inr broken ↦ inr (
          broken.0,
          record {
            of_spelling = broken.1;
            stage = s;
            rest = rest;
            next = next.0;
            text = text;
            spelled = good.spelled;
            comes = next.1;
            broken = broken.2;
          },
        )
      ]

from-stage : (n : ℕ) (bytes : List ℕ) (s : Stage) (rest : List ℕ) → length rest ≤ n → Reached s
    → bytes ≡ text_of_lines (lines_so_far s) ++ rest → Judged bytes
from-stage zero bytes s rest le good text = at-rest bytes s rest good text (λ t more lt g e. absurd (omega arith))
from-stage (suc n) bytes s rest le good text =
    at-rest bytes s rest good text (λ t more lt g e. from-stage n bytes t more (omega arith) g e)

pub none-misspelled : (bytes : List ℕ) → ((b : Parts) → Spells bytes b → ⊥) → (f : Fault) × Misspells bytes f
none-misspelled bytes none =
    elim (from-stage (length bytes) bytes start bytes (omega arith) (record { spelled = tt; begun = tt }) refl) [
      | inl spelled ↦ absurd (none spelled.0 spelled.1)
      | inr broken ↦ broken
    ]
