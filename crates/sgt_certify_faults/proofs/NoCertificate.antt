-- Bytes that spell logs with a certificate have no fault of the logs themselves.
use Rattle.std.proofs.Common.{◌≡◌, ℕ, ◌≤◌, List, [], ◌∷◌, ◌++◌, length, map, None, refl, sym, ap, ◌∙◌, subst, arith, append_assoc, All}
use Rattle.std.specs.List.{AllByRecursion}
use Rattle.std.proofs.lemmas.List.{append-nil}
use Rattle.std.proofs.lemmas.List.Elements.{recursion_from_All, All-nil}
use Rattle.sgt_names.specs.Limits.{max_sites}
use Rattle.sgt_notation.specs.Spelling.{line_text, text_of_lines}
use Rattle.sgt_notation.specs.declared.SectionLine.{SectionLine}
use Rattle.sgt_notation.specs.declared.SectionLine.TheVariants.{Site, Initial, Logged, Final, End}
use Rattle.sgt_notation.proofs.OneSpelling.{cut_at_byte, line-one, line-one_line}
use Rattle.sgt_bundle.specs.Text.{format_line, sections_from, Begins}
use Rattle.sgt_bundle.specs.Valid.{IsValid}
use Rattle.sgt_bundle.specs.declared.certificate.Certificate.{Certificate}
use Rattle.sgt_bundle.specs.declared.bundle.SiteLog.{SiteLog}
use Rattle.sgt_bundle.proofs.OneText.{format-one_line, lines_front, sections-lines}
use Rattle.sgt_audit.specs.declared.faults.Fault.{Fault}
use Rattle.sgt_audit.specs.declared.faults.Fault.TheVariants as fault
use Rattle.sgt_audit.specs.Faults.{IsLineIn, Piece, whole, last, ComesNext, Rule, start}
use Rattle.sgt_audit.specs.Reading.{Begun}
use Rattle.sgt_audit.specs.private.Following.{FitsBetween}
use Rattle.sgt_audit.proofs.Formats.{format-one, lines-of, lines-allowed}
use Rattle.sgt_audit.proofs.MayFollow.{begins-follow}
use Rattle.sgt_audit.proofs.OneFault.{comes_line, one_piece}
use Rattle.sgt_certify_logs.specs.Certifiable.{HasNoCertificate, SpellsLogs}
use Rattle.sgt_certify_faults.specs.Faults.{AreAll, AreSpelled, Front, none, behind, HasFault, KeepsAlone, lines_of, RuleAlone}
use Rattle.sgt_certify_faults.proofs.KeptAlone.{kept-alone}
use Rattle.sgt_notation.proofs.Texts.{first_line, line_front}

-- no site follows all that there can be
pub no-more : (b : Begun) (line : SectionLine) → FitsBetween b line → length b.whole ≡ max_sites → b.sites ≤ max_sites
    → ⊥
no-more b (Site k) f all few = absurd (omega (arith, f.0, f.1, all, few))
no-more b (Initial h) f all few = f
no-more b (Logged e) f all few = f
no-more b (Final h) f all few = f
no-more b End f all few = f

module _ (bytes : List ℕ) (sites : List SiteLog) (logs : SpellsLogs bytes sites) (c : Certificate)
    (valid : IsValid (record { certificate = c; sites = sites })) where
  abbrev lines : List SectionLine
  lines = sections_from 0 sites

  abbrev body : List ℕ
  body = text_of_lines (map line_text lines)

  each-line : All (IsLineIn logs.second) lines
  each-line = lines-allowed logs.second 0 sites (sections-lines 0 sites (omega (arith, logs.shape.few)) logs.logs)
      logs.allowed

  behind-first : bytes ≡ format_line logs.second ++ 10 ∷ body
  behind-first = logs.text ∙ first_line (format_line logs.second) (map line_text lines)

  -- the first line
  at-start : (rest : List ℕ) (next : Piece) (f : Fault) → bytes ≡ rest → ComesNext rest next → Rule start next f
  at-start rest next f text comes =
      subst (λ p. Rule start p f)
      (sym (comes_line (format_line logs.second) body rest next (format-one_line logs.second) (sym text
      ∙ behind-first) comes)) (holds f)
    where
      holds : (f : Fault) → Rule start (whole (format_line logs.second)) f
      holds fault.Format = (logs.second, refl)
      holds _ = tt

  module _ (before : List SectionLine) (each : All (IsLineIn logs.second) before) (rest : List ℕ)
      (text : body ≡ text_of_lines (map line_text before) ++ rest) where
    abbrev Kept : Type 0
    Kept = (next : Piece) (f : Fault) → ComesNext rest next → RuleAlone (behind logs.second before) next f

    left : (more : List SectionLine) × (lines ≡ before ++ more) × (rest ≡ text_of_lines (map line_text more))
    left = lines_front before lines rest (lines-of logs.second before each) (lines-of logs.second lines each-line)
        (sym text)

    -- the end behind all sections
    none-left : lines ≡ before ++ [] → rest ≡ [] → Kept
    none-left same is next f comes =
        subst (λ p. RuleAlone (behind logs.second before) p f)
        (one_piece rest (last []) next (subst (λ t. ComesNext t (last [])) (sym is) (
          refl,
          All-nil (λ x. x ≡ 10 → ⊥),
        )) comes) (holds f)
      where
        holds : (f : Fault) → RuleAlone (behind logs.second before) (last []) f
        holds fault.Trailing = λ all. refl
        holds fault.Notation = λ open_yet. omega arith
        holds fault.Truncated = λ open_yet. (refl, (length sites, (sites, logs.shape, same ∙ append-nil before)))
        holds _ = λ open_yet. tt

    -- one more line
    module _ (line : SectionLine) (more : List SectionLine) (same : lines ≡ before ++ line ∷ more) where
      good : IsLineIn logs.second line
      good = at_front before
          (subst (AllByRecursion (IsLineIn logs.second)) same
          (recursion_from_All (IsLineIn logs.second) lines each-line))
        where
          at_front : (xs : List SectionLine) → AllByRecursion (IsLineIn logs.second) (xs ++ line ∷ more)
              → IsLineIn logs.second line
          at_front [] h = h.0
          at_front (x ∷ xs) h = at_front xs h.1

      not-all : AreAll before → ⊥
      not-all (ls, shaped, all) =
          let b : Begun = record { sites = length sites; whole = ls; current = None } in
          let begins : Begins (length sites) ((sections_from 0 ls ++ []) ++ line ∷ []) = (
            sites,
            more,
            logs.shape,
            same ∙ ap (λ (xs : List SectionLine). xs ++ line ∷ more) (sym all
                ∙ sym (append-nil (sections_from 0 ls)))
                ∙ sym (append_assoc (sections_from 0 ls ++ []) (line ∷ []) more),
          ) in
          no-more b line (begins-follow b line begins) shaped.each logs.shape.few

      one-left : rest ≡ text_of_lines (map line_text (line ∷ more)) → Kept
      one-left is next f comes =
          subst (λ p. RuleAlone (behind logs.second before) p f)
          (sym (comes_line (line_text line) (text_of_lines (map line_text more)) rest next
          (line-one_line line good.0) (is ∙ first_line (line_text line) (map line_text more)) comes)) (holds f)
        where
          holds : (f : Fault) → RuleAlone (behind logs.second before) (whole (line_text line)) f
          holds fault.Trailing = λ all. absurd (not-all all)
          holds fault.Notation = λ open_yet. (line, good, refl)
          holds f = λ open_yet m m-is e. subst (λ k. KeepsAlone before k f) (line-one line m good.0 m-is.0 e)
              (kept-alone sites c valid logs.shape before more line same f)

    kept-behind : Kept
    kept-behind = from left.0 left.1 left.2
      where
        from : (more : List SectionLine) → lines ≡ before ++ more → rest ≡ text_of_lines (map line_text more) → Kept
        from [] same is = none-left same is
        from (line ∷ more) same is = one-left line more same is

  kept-at : (front : Front) (rest : List ℕ) (next : Piece) (f : Fault) → AreSpelled front
      → bytes ≡ text_of_lines (lines_of front) ++ rest → ComesNext rest next → RuleAlone front next f
  kept-at none rest next f spelled text comes = at-start rest next f text comes
  kept-at (behind second before) rest next f spelled text comes =
      let e = sym behind-first ∙ text ∙ line_front (format_line second) (map line_text before) rest in
      let cut =
      cut_at_byte 10 (format_line logs.second) (format_line second) body
      (text_of_lines (map line_text before) ++ rest) (format-one_line logs.second) (format-one_line second) e in
      let one = format-one logs.second second cut.0 in
      subst (λ t. RuleAlone (behind t before) next f) one
      (kept-behind before (subst (λ t. All (IsLineIn t) before) (sym one) spelled) rest cut.1 next f comes)

pub fault-none : (bytes : List ℕ) (n : ℕ) (f : Fault) → HasFault bytes n f → HasNoCertificate bytes
fault-none bytes n f h sites logs (c, valid) =
    h.broken (kept-at bytes sites logs c valid h.front h.rest h.next f h.spelled h.text h.comes)
