-- An auditor that is fed line by line.
use Rattle.std.proofs.Common.{◌≡◌, ℕ, ◌+◌, ◌<◌, ◌^◌, Bool, List, [], ◌∷◌, ◌++◌, length, None, refl, sym, ap, ◌∙◌, subst, arith}
use Rattle.std.specs.Prelude.{Result, Err}
use Rattle.std.proofs.lemmas.List.{append-nil, length-append}
use Rattle.sgt_notation.specs.Spelling.{text_of_lines, HasNoLf}
use Rattle.sgt_bundle.specs.Text.{certificate_text, format_line}
use Rattle.sgt_bundle.specs.declared.certificate.Certificate.{Certificate}
use Rattle.sgt_audit.specs.declared.faults.Fault.{Fault}
use Rattle.sgt_audit.specs.declared.kept.Kept.{Kept}
use Rattle.sgt_audit.specs.declared.faults.FirstFault as found
use Rattle.sgt_audit.specs.declared.machine.Machine.{Machine}
use Rattle.sgt_audit.specs.declared.machine.Progress.TheVariants as at
use Rattle.sgt_audit.specs.declared.auditor.Standing.TheVariants.{Going, Found}
use Rattle.sgt_audit.specs.Faults.{Stage, headed, whole, lines_so_far, Rule, Breaks, FirstFault}
use Rattle.sgt_audit.specs.Progress.{Stands}
use Rattle.sgt_audit.specs.private.NextLine.{Follows}
use Rattle.sgt_audit.specs.Fed.{HasRead, HaveNoFault, bundle_lines}
use Rattle.sgt_audit.specs.private.Ending.{EndsWith}
use Rattle.sgt_audit.specs.private.Stops.{IsJudged}
use Rattle.sgt_audit.proofs.ReaderAtStage.{faultless, text-judged}
use Rattle.sgt_notation.proofs.Texts.{text-one_line}

-- a fault in the next line, whatever follows
pub fault-read : (m : Machine) (n : ℕ) (lines : List (List ℕ)) (l : List ℕ) (f : Fault) → HasNoLf l
    → HasRead (Going m n) lines → ((s : Stage) → Stands m.progress s → Breaks (Rule s (whole l)) f)
    → HasRead (Found (record { line = n; fault = f })) (lines ++ l ∷ [])
fault-read m n lines l f none (s, stands, same, counts) breaks = (
  length lines + 1,
  λ rest. record {
    stage = s;
    rest = l ++ 10 ∷ rest;
    next = whole l;
    text = text-one_line lines l rest ∙ ap (λ ls. text_of_lines ls ++ (l ++ 10 ∷ rest)) (sym same);
    faultless = faultless m.progress s stands;
    number = ap (λ ls. length ls + 1) (sym same);
    comes = (rest, refl, none);
    breaks = breaks s stands;
  },
  omega (arith, length-append lines (l ∷ [])),
  counts,
)

-- it stays the first one
pub found-read : (f : found.FirstFault) (lines : List (List ℕ)) (l : List ℕ) → HasRead (Found f) lines
    → HasRead (Found f) (lines ++ l ∷ [])
found-read f lines l (m, first, le, counts) = (
  m,
  λ rest. subst (λ t. FirstFault t m f.fault) (sym (text-one_line lines l rest)) (first (l ++ 10 ∷ rest)),
  omega (arith, length-append lines (l ∷ [])),
  counts,
)

-- ---- the verdict

pub found-verdict : (f : found.FirstFault) (lines : List (List ℕ)) → HasRead (Found f) lines
    → length lines + 1 < 2 ^ 64 → (rest : List ℕ) → FirstFault (text_of_lines lines ++ rest) f.line f.fault
found-verdict f lines (m, first, le, counts) few rest =
    subst (λ k. FirstFault (text_of_lines lines ++ rest) k f.fault) (sym (counts (omega (arith, few)))) (first rest)

pub found-judged : (f : found.FirstFault) (lines : List (List ℕ)) → HasRead (Found f) lines
    → length lines + 1 < 2 ^ 64 → IsJudged (Err f) (text_of_lines lines)
found-judged f lines read few = subst (λ t. FirstFault t f.line f.fault) (append-nil (text_of_lines lines))
    (found-verdict f lines read few [])

pub end-judged : (m : Machine) (n : ℕ) (j : Result Kept found.FirstFault) (lines : List (List ℕ))
    → HasRead (Going m n) lines → length lines + 1 < 2 ^ 64 → ((s : Stage) → Stands m.progress s → EndsWith s [] n j)
    → IsJudged j (text_of_lines lines)
end-judged m n j lines (s, stands, same, counts) few ends =
    text-judged s [] n (faultless m.progress s stands) (λ k d lt. absurd (omega arith)) (text_of_lines lines) j
    (ends s stands) (
      ap text_of_lines (sym same) ∙ sym (append-nil (text_of_lines (lines_so_far s))),
      counts few
          ∙ ap (λ ls. length ls + 1) (sym same),
    )

-- ---- the certificate's line

pub first-read : (second : Bool) (m : Machine) (l : List ℕ) (c : Certificate) → l ≡ certificate_text c
    → Follows (headed second) l m.progress None → HasRead (Going m 3) (bundle_lines second c [])
first-read second m l c same (t, stands, lines) = (
  t,
  stands,
  lines ∙ ap (λ x. format_line second ∷ x ∷ []) same,
  λ _. refl,
)

pub first-fault : (second : Bool) (m : Machine) (l : List ℕ) (c : Certificate) (f : Fault)
    → m.progress ≡ at.Headed second → HasNoLf (certificate_text c) → l ≡ certificate_text c
    → ((s : Stage) → Stands m.progress s → Breaks (Rule s (whole l)) f)
    → HasRead (Found (record { line = 2; fault = f })) (bundle_lines second c [])
first-fault second m l c f here none same breaks =
    fault-read m 2 (format_line second ∷ []) (certificate_text c) f none (
      headed second,
      subst (λ p. Stands p (headed second)) (sym here) refl,
      refl,
      λ _. refl,
    )
    (λ s stands. subst (λ l. Breaks (Rule s (whole l)) f) same (breaks s stands))

-- ---- the fault that is known

pub known-none : (m : Machine) (n : ℕ) (lines : List (List ℕ)) → HasRead (Going m n) lines → HaveNoFault lines
known-none m n lines (s, stands, same, numbered) = (s, faultless m.progress s stands, same)
