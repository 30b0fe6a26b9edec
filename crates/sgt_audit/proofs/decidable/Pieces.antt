-- The next piece of a text keeps a rule or it doesn't, where every rule of smaller number is kept.
use Rattle.std.proofs.Common.{◌≡◌, ℕ, ◌<◌, Bool, true, false, List, [], length, sym, ◌∙◌, subst, inl, inr}
use Rattle.sgt_names.specs.Limits.{max_line}
use Rattle.sgt_notation.specs.Spelling.{line_text}
use Rattle.sgt_notation.specs.declared.SectionLine.{SectionLine}
use Rattle.sgt_notation.proofs.Decidable.{Decidable, decidable-as, decidable-most, decidable-text, or_else}
use Rattle.sgt_notation.proofs.OneSpelling.{line-one}
use Rattle.sgt_bundle.specs.Text.{certificate_text, format_line, IsCertificate}
use Rattle.sgt_bundle.specs.declared.certificate.Certificate.{Certificate}
use Rattle.sgt_bundle.proofs.Reading.{certificate-one}
use Rattle.sgt_audit.specs.declared.faults.Fault.{Fault}
use Rattle.sgt_audit.specs.declared.faults.Fault.TheVariants as fault
use Rattle.sgt_audit.specs.Faults.{fault_number, Keeps, KeepsItself, IsLineIn, Stage, start, headed, within, complete, Piece, whole, last, Rule}
use Rattle.sgt_audit.specs.private.Judging.{KeptBelow}
use Rattle.sgt_audit.proofs.decidable.Certificates.{decidable-certificate, decidable-itself}
use Rattle.sgt_audit.proofs.decidable.Sections.{HasBegun}
use Rattle.sgt_audit.proofs.decidable.Lines.{decidable-line, decidable-keeps}

-- what was read of the sections, while they go on
abbrev pub HoldsBegun : Stage → Type 0
HoldsBegun (within second c before) = HasBegun c before
HoldsBegun _ = Unit {0}

decidable-format : (l : List ℕ) → Decidable ((second : Bool) × (l ≡ format_line second))
decidable-format l =
    or_else (decidable-text l (format_line false)) (λ e. (false, e))
    (λ not_first. or_else (decidable-text l (format_line true)) (λ e. (true, e)) (λ not_second.
    inr (λ h. neither not_first not_second h.0 h.1)))
  where
    neither : (l ≡ format_line false → ⊥) → (l ≡ format_line true → ⊥) → (second : Bool) → l ≡ format_line second → ⊥
    neither f s false e = f e
    neither f s true e = s e

-- a rule of the certificate that the line spells, if it spells one
of_certificate : (l : List ℕ) (f : Fault) → Decidable ((c : Certificate) × IsCertificate c × (l ≡ certificate_text c))
    → Decidable ((c : Certificate) → IsCertificate c → l ≡ certificate_text c → KeepsItself c.decisions f)
of_certificate l f (inl (c, is, e)) =
    decidable-as (λ keeps d is_d same. subst (λ (c : Certificate). KeepsItself c.decisions f)
    (certificate-one c d is is_d (sym e ∙ same)) keeps) (λ all. all c is e) (decidable-itself c.decisions f)
of_certificate l f (inr none) = inl (λ c is e. absurd (none (c, is, e)))

-- a rule of the section's line that the line spells, if it spells one
module _ (second : Bool) (c : Certificate) (before : List SectionLine) (held : HasBegun c before) (l : List ℕ) where
  of_line : (f : Fault)
      → (fault_number fault.Section < fault_number f → Rule (within second c before) (whole l) fault.Section)
      → Decidable ((line : SectionLine) × IsLineIn second line × (l ≡ line_text line))
      → Decidable ((line : SectionLine) → IsLineIn second line → l ≡ line_text line → Keeps c before line f)
  of_line f below (inl (line, is, e)) =
      decidable-as (λ keeps m is_m same. subst (λ k. Keeps c before k f) (line-one line m is.0 is_m.0 (sym e ∙ same))
      keeps) (λ all. all line is e)
      (decidable-keeps c before held line f (λ lt. below lt line is e))
  of_line f below (inr none) = inl (λ line is e. absurd (none (line, is, e)))

  pub decidable-within : (f : Fault)
      → (fault_number fault.Section < fault_number f → Rule (within second c before) (whole l) fault.Section)
      → Decidable (Rule (within second c before) (whole l) f)
  decidable-within fault.Notation below = decidable-line second l
  decidable-within f below = of_line f below (decidable-line second l)

pub decidable-certified : (second : Bool) (l : List ℕ) (f : Fault) → Decidable (Rule (headed second) (whole l) f)
decidable-certified second l fault.Certificate = decidable-certificate l
decidable-certified second l f = of_certificate l f (decidable-certificate l)

pub decidable-first : (l : List ℕ) (f : Fault) → Decidable (Rule start (whole l) f)
decidable-first l fault.Format = decidable-format l
decidable-first l _ = inl tt

pub decidable-trailing : (second : Bool) (c : Certificate) (before : List SectionLine) (l : List ℕ) (f : Fault)
    → Decidable (Rule (complete second c before) (whole l) f)
decidable-trailing second c before l fault.Trailing = inr (λ h. h)
decidable-trailing second c before l _ = inl tt

-- at the end of the input
pub decidable-last : (s : Stage) (l : List ℕ) (f : Fault) → Decidable (Rule s (last l) f)
decidable-last start l fault.Format = decidable-most (length l) max_line
decidable-last (within second c before) l fault.Notation = decidable-most (length l) max_line
decidable-last (complete second c before) l fault.Trailing = decidable-text l []
decidable-last (complete second c before) l fault.Truncated = inl tt
decidable-last _ l fault.Truncated = inr (λ h. h)
decidable-last _ l _ = inl tt

pub decidable-rule : (s : Stage) (p : Piece) → HoldsBegun s → (f : Fault) → KeptBelow (Rule s p) (fault_number f)
    → Decidable (Rule s p f)
decidable-rule start (whole l) held f kept = decidable-first l f
decidable-rule (headed second) (whole l) held f kept = decidable-certified second l f
decidable-rule (within second c before) (whole l) held f kept =
    decidable-within second c before held l f (λ lt. kept fault.Section lt)
decidable-rule (complete second c before) (whole l) held f kept = decidable-trailing second c before l f
decidable-rule s (last l) held f kept = decidable-last s l f
