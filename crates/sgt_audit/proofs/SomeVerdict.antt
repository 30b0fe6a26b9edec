-- Each text has a verdict: read line by line, it comes to its end or to a line that breaks a rule, since of each rule
-- it is known whether it is kept.
use Rattle.std.proofs.Common.{◌≡◌, ℕ, zero, suc, ◌+◌, ◌<◌, ◌≤◌, lit<, Bool, List, [], ◌∷◌, ◌++◌, length, map, refl, sym, ap, ◌∙◌, arith, inl, inr, ◌⊎◌}
use Rattle.std.proofs.lemmas.List.{append-nil, map-append, length-append}
use Rattle.sgt_notation.specs.Spelling.{line_text, text_of_lines}
use Rattle.sgt_notation.specs.declared.SectionLine.{SectionLine}
use Rattle.sgt_notation.proofs.Decidable.{Decidable}
use Rattle.sgt_bundle.specs.Text.{certificate_text, format_line, IsCertificate}
use Rattle.sgt_bundle.specs.declared.certificate.Certificate.{Certificate}
use Rattle.sgt_audit.specs.declared.faults.Fault.{Fault}
use Rattle.sgt_audit.specs.declared.faults.Fault.TheVariants as fault
use Rattle.sgt_audit.specs.declared.verdict.Verdict.{Verdict}
use Rattle.sgt_audit.specs.declared.verdict.Verdict.TheVariants.{No}
use Rattle.sgt_audit.specs.Faults.{fault_number, Keeps, KeepsItself, AllKept, IsLineIn, Stage, start, headed, within, complete, lines_so_far, IsFaultless, Piece, whole, last, ComesNext, Rule, Breaks}
use Rattle.sgt_audit.specs.Verdict.{IsVerdict, yes_of}
use Rattle.sgt_audit.specs.private.Judging.{KeptBelow}
use Rattle.sgt_audit.proofs.Least.{kept-next}
use Rattle.sgt_audit.proofs.LinePlaces.{no_cons}
use Rattle.sgt_audit.proofs.NoFault.{no_fault-valid}
use Rattle.sgt_audit.proofs.ReaderAtStage.{piece}
use Rattle.sgt_audit.proofs.NextLine.{no_notation, kept-more}
use Rattle.sgt_audit.proofs.decidable.Sections.{HasBegun, none-begun, more-begun, decidable-sections}
use Rattle.sgt_audit.proofs.decidable.Pieces.{HoldsBegun, decidable-rule}
use Rattle.sgt_notation.proofs.Texts.{text-one_line}

-- ---- the rules of one place: all are kept, or one is the least that is broken

module _ (rule : Fault → Type 0) (decide : (f : Fault) → KeptBelow rule (fault_number f) → Decidable (rule f)) where
  abbrev KeptOrBroken : ℕ → Type 0
  KeptOrBroken n = KeptBelow rule n ⊎ ((f : Fault) × Breaks rule f)

  none-below : KeptBelow rule 1
  none-below fault.Format lt = absurd (omega arith)
  none-below _ lt = absurd (omega arith)

  judge-next : (f : Fault) → KeptOrBroken (fault_number f) → KeptOrBroken (fault_number f + 1)
  judge-next f (inr broken) = inr broken
  judge-next f (inl kept) = elim (decide f kept) [
    | inl r ↦ inl (kept-next rule (fault_number f) f refl kept r)
    | inr never ↦ inr (f, record { broken = never; least = kept })
  ]

  judged-6 : KeptOrBroken 7
  judged-6 =
      judge-next fault.WalkShape (judge-next fault.DecidedTwice (judge-next fault.Ranks
      (judge-next fault.Certificate (judge-next fault.Notation (judge-next fault.Format (inl none-below))))))

  judged-12 : KeptOrBroken 13
  judged-12 =
      judge-next fault.Block
      (judge-next fault.RankOrder
      (judge-next fault.ReadValue
      (judge-next fault.Twice (judge-next fault.Item (judge-next fault.Section judged-6)))))

  judged-19 : KeptOrBroken 20
  judged-19 =
      judge-next fault.Trailing (judge-next fault.Truncated (judge-next fault.WalkStep (judge-next fault.Final
      (judge-next fault.NotEnded (judge-next fault.DecisionOrder (judge-next fault.End judged-12))))))

  number-below : (f : Fault) → fault_number f < 20
  number-below fault.Format = lit< tt
  number-below _ = lit< tt

  all-or-least : ((f : Fault) → rule f) ⊎ ((f : Fault) × Breaks rule f)
  all-or-least = elim judged-19 [
    | inl kept ↦ inl (λ f. kept f (number-below f))
    | inr broken ↦ inr broken
  ]

-- ---- what stands behind lines that keep every rule

-- a stage with no fault, and what was read of its sections
pub record Reached (s : Stage) : Type 0 where
  pub faultless : IsFaultless s
  pub begun : HoldsBegun s

-- the lines of a certificate and of sections are some of them, or all
some-or-all : (second : Bool) (c : Certificate) (before : List SectionLine) → AllKept second c before
    → HasBegun c before
    → (s : Stage) × Reached s × (lines_so_far s ≡ lines_so_far (within second c before))
some-or-all second c before kept held =
    elim (decidable-sections c before held) [
      | inl all ↦ (complete second c before, record { faultless = (kept, all); begun = tt }, refl)
      | inr more ↦ (within second c before, record { faultless = (kept, more); begun = held }, refl)
    ]

keeps-itself : (second : Bool) (c : Certificate) (l : List ℕ) → IsCertificate c → l ≡ certificate_text c
    → ((f : Fault) → Rule (headed second) (whole l) f) → (f : Fault) → KeepsItself c.decisions f
keeps-itself second c l is same rules fault.Certificate = tt
keeps-itself second c l is same rules f = rules f c is same

keeps-each : (second : Bool) (c : Certificate) (before : List SectionLine) (line : SectionLine) (l : List ℕ)
    → IsLineIn second line → l ≡ line_text line
    → ((f : Fault) → Rule (within second c before) (whole l) f) → (f : Fault) → Keeps c before line f
keeps-each second c before line l is same rules fault.Notation = no_notation c before line
keeps-each second c before line l is same rules f = rules f line is same

-- the next stage, behind a line that keeps every rule
next-stage : (s : Stage) (l : List ℕ) → Reached s → ((f : Fault) → Rule s (whole l) f)
    → (t : Stage) × Reached t × (lines_so_far t ≡ lines_so_far s ++ l ∷ [])
next-stage start l good rules =
    let first = rules fault.Format in
    (headed first.0, record { faultless = tt; begun = tt }, ap (λ x. x ∷ []) (sym first.1))
next-stage (headed second) l good rules =
    let certified = rules fault.Certificate in
    let c = certified.0 in
    let kept : AllKept second c [] = record {
      spelled = certified.1;
      itself = keeps-itself second c l certified.1 certified.2 rules;
      lines = λ earlier later line e. absurd (no_cons earlier later line e);
    } in
    let t = some-or-all second c [] kept (none-begun c certified.1) in
    (t.0, t.1, t.2 ∙ ap (λ x. format_line second ∷ x ∷ []) (sym certified.2))
next-stage (within second c before) l good rules =
    let noted = rules fault.Notation in
    let line = noted.0 in
    let kept =
    kept-more second c before line good.faultless.0 noted.1
    (keeps-each second c before line l noted.1 noted.2 rules) in
    let held = more-begun c before good.begun line (rules fault.Section line noted.1 noted.2) in
    let spelled = map-append line_text before (line ∷ []) ∙ ap (λ x. map line_text before ++ x ∷ []) (sym noted.2) in
    let t = some-or-all second c (before ++ line ∷ []) kept held in
    (t.0, t.1, t.2 ∙ ap (λ (ls : List (List ℕ)). format_line second ∷ certificate_text c ∷ ls) spelled)
next-stage (complete second c before) l good rules = absurd (rules fault.Trailing)

-- ---- the verdict

abbrev HasVerdict : List ℕ → Type 0
HasVerdict bytes = (v : Verdict) × IsVerdict bytes v

-- at the end of the input all rules are kept behind all sections alone
ends-well : (bytes : List ℕ) (s : Stage) (l : List ℕ) → IsFaultless s → bytes ≡ text_of_lines (lines_so_far s) ++ l
    → ((f : Fault) → Rule s (last l) f) → HasVerdict bytes
ends-well bytes start l good text rules = absurd (rules fault.Truncated)
ends-well bytes (headed second) l good text rules = absurd (rules fault.Truncated)
ends-well bytes (within second c before) l good text rules = absurd (rules fault.Truncated)
ends-well bytes (complete second c before) l good text rules =
    let lines = text_of_lines (lines_so_far (complete second c before)) in
    let valid = no_fault-valid bytes (
      second,
      c,
      before,
      good,
      text
          ∙ ap (λ (t : List ℕ). lines ++ t) (rules fault.Trailing) ∙ append-nil lines,
    ) in
    (yes_of valid.0.certificate.decisions, (valid.0, valid.1, valid.2, refl))

-- behind a stage of the text, where what is shorter comes to a verdict
module _ (bytes : List ℕ) (s : Stage) (rest : List ℕ) (good : Reached s)
    (text : bytes ≡ text_of_lines (lines_so_far s) ++ rest)
    (further : (t : Stage) (more : List ℕ) → length more < length rest → Reached t
    → bytes ≡ text_of_lines (lines_so_far t) ++ more → HasVerdict bytes) where
  at-piece : (next : Piece) → ComesNext rest next → ((f : Fault) → Rule s next f) → HasVerdict bytes
  at-piece (last l) comes rules =
      ends-well bytes s l good.faultless (text ∙ ap (λ (t : List ℕ). text_of_lines (lines_so_far s) ++ t) comes.0) rules
  at-piece (whole l) (more, is, one) rules =
      let t = next-stage s l good rules in
      further t.0 more (omega (arith, ap length is, length-append l (10 ∷ more))) t.1
      (text ∙ ap (λ (x : List ℕ). text_of_lines (lines_so_far s) ++ x) is
      ∙ sym (text-one_line (lines_so_far s) l more) ∙ ap (λ ls. text_of_lines ls ++ more) (sym t.2))

  at-rest : HasVerdict bytes
  at-rest =
      let next = piece rest in
      elim (all-or-least (Rule s next.0) (decidable-rule s next.0 good.begun)) [
        | inl rules ↦ at-piece next.0 next.1 rules
        | inr broken ↦ (
          No (length (lines_so_far s) + 1) broken.0,
          record {
            stage = s;
            rest = rest;
            next = next.0;
            text = text;
            faultless = good.faultless;
            number =
                refl;
            comes = next.1;
            breaks = broken.1;
          },
        )
      ]

from-stage : (n : ℕ) (bytes : List ℕ) (s : Stage) (rest : List ℕ) → length rest ≤ n → Reached s
    → bytes ≡ text_of_lines (lines_so_far s) ++ rest → HasVerdict bytes
from-stage zero bytes s rest le good text = at-rest bytes s rest good text (λ t more lt g e. absurd (omega arith))
from-stage (suc n) bytes s rest le good text =
    at-rest bytes s rest good text (λ t more lt g e. from-stage n bytes t more (omega arith) g e)

pub some-verdict : (bytes : List ℕ) → (v : Verdict) × IsVerdict bytes v
some-verdict bytes = from-stage (length bytes) bytes start bytes (omega arith) (record { faultless = tt; begun = tt })
    refl
