-- The line that has the first fault of a text, by its number.
use Rattle.std.proofs.Common.{◌≡◌, ◌≢◌, ℕ, ◌+◌, ◌≤◌, List, [], ◌∷◌, ◌++◌, length, map, inl, inr, refl, sym, ap, ◌∙◌, subst, arith, All}
use Rattle.std.proofs.lemmas.List.Elements.{All-from_recursion, recursion_from_All}
use Rattle.sgt_notation.specs.Spelling.{line_text, text_of_lines, HasNoLf}
use Rattle.sgt_names.specs.Limits.{max_line}
use Rattle.sgt_bundle.specs.Text.{certificate_text, format_line}
use Rattle.sgt_bundle.proofs.OneLine.{certificate-one_line}
use Rattle.sgt_bundle.proofs.OneText.{format-one_line}
use Rattle.sgt_audit.specs.declared.faults.Fault.{Fault}
use Rattle.sgt_audit.specs.declared.faults.Fault.TheVariants as fault
use Rattle.sgt_audit.specs.Faults.{Stage, start, headed, within, complete, lines_so_far, IsFaultless, Piece, whole, last, ComesNext, Rule, FirstFault, bytes_of}
use Rattle.sgt_explain_lines.specs.Numbered.{IsLineAt}
use Rattle.sgt_explain_lines.proofs.Numbering.{lines-plain}
use Rattle.sgt_explain.proofs.FaultyLine.{kept-spelled}

-- the lines before a fault have no LF
pub lines_so_far-plain : (stage : Stage) → IsFaultless stage → All HasNoLf (lines_so_far stage)
lines_so_far-plain start kept = All-from_recursion HasNoLf [] tt
lines_so_far-plain (headed second) kept =
    All-from_recursion HasNoLf (format_line second ∷ []) (
      All-from_recursion (λ b. b ≢ 10) (format_line second)
          (format-one_line second),
      tt,
    )
lines_so_far-plain (within second c before) kept =
    All-from_recursion HasNoLf (lines_so_far (within second c before)) (
      All-from_recursion (λ b. b ≢ 10) (format_line second) (format-one_line second),
      (
        All-from_recursion (λ b. b ≢ 10) (certificate_text c) (certificate-one_line c kept.0.spelled),
        recursion_from_All HasNoLf (map line_text before) (lines-plain before (kept-spelled second c before kept.0)),
      ),
    )
lines_so_far-plain (complete second c before) kept =
    All-from_recursion HasNoLf (lines_so_far (complete second c before)) (
      All-from_recursion (λ b. b ≢ 10) (format_line second) (format-one_line second),
      (
        All-from_recursion (λ b. b ≢ 10) (certificate_text c) (certificate-one_line c kept.0.spelled),
        recursion_from_All HasNoLf (map line_text before) (lines-plain before (kept-spelled second c before kept.0)),
      ),
    )

-- the text ends with the lines before
abbrev pub IsNothing : Piece → Type 0
IsNothing (whole l) = ⊥
IsNothing (last l) = l ≡ []

at-piece : (bytes rest : List ℕ) (n : ℕ) (stage : Stage) (next : Piece)
    → bytes ≡ text_of_lines (lines_so_far stage) ++ rest → IsFaultless stage → n ≡ length (lines_so_far stage) + 1
    → ComesNext rest next → (IsNothing next → ⊥) → IsLineAt bytes n (bytes_of next)
at-piece bytes rest n stage (whole l) text kept number comes some = record {
  before = lines_so_far stage;
  rest = comes.0;
  whole = lines_so_far-plain stage kept;
  one = comes.2;
  text = inl (text ∙ ap (λ r. text_of_lines (lines_so_far stage) ++ r) comes.1);
  counted = number;
}
at-piece bytes rest n stage (last l) text kept number comes some = record {
  before = lines_so_far stage;
  rest = [];
  whole = lines_so_far-plain stage kept;
  one = comes.1;
  text = inr (text ∙ ap (λ r. text_of_lines (lines_so_far stage) ++ r) comes.0, some);
  counted = number;
}

pub faulty-at : (bytes : List ℕ) (n : ℕ) (f : Fault) (first : FirstFault bytes n f) → (IsNothing first.next → ⊥)
    → IsLineAt bytes n (bytes_of first.next)
faulty-at bytes n f first some =
    at-piece bytes first.rest n first.stage first.next first.text first.faultless first.number first.comes some

-- ---- a line is there that has such a fault

no-more : (l : List ℕ) → l ≡ [] → length l ≤ max_line
no-more l e = subst (λ m. length m ≤ max_line) (sym e) (omega arith)

format-some : (stage : Stage) (next : Piece) → (Rule stage next fault.Format → ⊥) → IsNothing next → ⊥
format-some stage (whole l) broken e = e
format-some start (last l) broken e = broken (no-more l e)
format-some (headed second) (last l) broken e = broken tt
format-some (within second c before) (last l) broken e = broken tt
format-some (complete second c before) (last l) broken e = broken tt

notation-some : (stage : Stage) (next : Piece) → (Rule stage next fault.Notation → ⊥) → IsNothing next → ⊥
notation-some stage (whole l) broken e = e
notation-some start (last l) broken e = broken tt
notation-some (headed second) (last l) broken e = broken tt
notation-some (within second c before) (last l) broken e = broken (no-more l e)
notation-some (complete second c before) (last l) broken e = broken tt

section-some : (stage : Stage) (next : Piece) → (Rule stage next fault.Section → ⊥) → IsNothing next → ⊥
section-some stage (whole l) broken e = e
section-some start (last l) broken e = broken tt
section-some (headed second) (last l) broken e = broken tt
section-some (within second c before) (last l) broken e = broken tt
section-some (complete second c before) (last l) broken e = broken tt

block-some : (stage : Stage) (next : Piece) → (Rule stage next fault.Block → ⊥) → IsNothing next → ⊥
block-some stage (whole l) broken e = e
block-some start (last l) broken e = broken tt
block-some (headed second) (last l) broken e = broken tt
block-some (within second c before) (last l) broken e = broken tt
block-some (complete second c before) (last l) broken e = broken tt

trailing-some : (stage : Stage) (next : Piece) → (Rule stage next fault.Trailing → ⊥) → IsNothing next → ⊥
trailing-some stage (whole l) broken e = e
trailing-some start (last l) broken e = broken tt
trailing-some (headed second) (last l) broken e = broken tt
trailing-some (within second c before) (last l) broken e = broken tt
trailing-some (complete second c before) (last l) broken e = broken e

-- only line 1 has the fault of a format
format-first : (stage : Stage) (next : Piece) → (Rule stage next fault.Format → ⊥) → length (lines_so_far stage) ≡ 0
format-first start next broken = refl
format-first (headed second) (whole l) broken = absurd (broken (λ c is e. tt))
format-first (headed second) (last l) broken = absurd (broken tt)
format-first (within second c before) (whole l) broken = absurd (broken (λ m is e. tt))
format-first (within second c before) (last l) broken = absurd (broken tt)
format-first (complete second c before) (whole l) broken = absurd (broken tt)
format-first (complete second c before) (last l) broken = absurd (broken tt)

-- only line 2 has that of a certificate
certificate-second : (stage : Stage) (next : Piece) → (Rule stage next fault.Certificate → ⊥)
    → length (lines_so_far stage) ≡ 1
certificate-second start (whole l) broken = absurd (broken tt)
certificate-second start (last l) broken = absurd (broken tt)
certificate-second (headed second) next broken = refl
certificate-second (within second c before) (whole l) broken = absurd (broken (λ m is e. tt))
certificate-second (within second c before) (last l) broken = absurd (broken tt)
certificate-second (complete second c before) (whole l) broken = absurd (broken tt)
certificate-second (complete second c before) (last l) broken = absurd (broken tt)

certificate-some : (stage : Stage) (next : Piece) → (Rule stage next fault.Certificate → ⊥) → IsNothing next → ⊥
certificate-some stage (whole l) broken e = e
certificate-some start (last l) broken e = broken tt
certificate-some (headed second) (last l) broken e = broken tt
certificate-some (within second c before) (last l) broken e = broken tt
certificate-some (complete second c before) (last l) broken e = broken tt

module _ (bytes : List ℕ) (n : ℕ) where
  pub certificate-at : (first : FirstFault bytes n fault.Certificate) → IsLineAt bytes 2 (bytes_of first.next)
  certificate-at first =
      let two : n ≡ 2 = first.number
      ∙ ap (λ k. k + 1) (certificate-second first.stage first.next first.breaks.broken) in
      subst (λ k. IsLineAt bytes k (bytes_of first.next)) two
      (faulty-at bytes n fault.Certificate first (certificate-some first.stage first.next first.breaks.broken))

  pub format-at : (first : FirstFault bytes n fault.Format) → (n ≡ 1) × IsLineAt bytes 1 (bytes_of first.next)
  format-at first =
      let one : n ≡ 1 = first.number ∙ ap (λ k. k + 1) (format-first first.stage first.next first.breaks.broken) in (
        one,
        subst (λ k. IsLineAt bytes k (bytes_of first.next)) one
            (faulty-at bytes n fault.Format first (format-some first.stage first.next first.breaks.broken)),
      )

  pub notation-at : (first : FirstFault bytes n fault.Notation) → IsLineAt bytes n (bytes_of first.next)
  notation-at first = faulty-at bytes n fault.Notation first (notation-some first.stage first.next first.breaks.broken)

  pub section-at : (first : FirstFault bytes n fault.Section) → IsLineAt bytes n (bytes_of first.next)
  section-at first = faulty-at bytes n fault.Section first (section-some first.stage first.next first.breaks.broken)

  pub block-at : (first : FirstFault bytes n fault.Block) → IsLineAt bytes n (bytes_of first.next)
  block-at first = faulty-at bytes n fault.Block first (block-some first.stage first.next first.breaks.broken)

  pub trailing-at : (first : FirstFault bytes n fault.Trailing) → IsLineAt bytes n (bytes_of first.next)
  trailing-at first = faulty-at bytes n fault.Trailing first (trailing-some first.stage first.next first.breaks.broken)

  pub truncated-at : (first : FirstFault bytes n fault.Truncated) → bytes_of first.next ≢ []
      → IsLineAt bytes n (bytes_of first.next)
  truncated-at first some = faulty-at bytes n fault.Truncated first (nothing first.next some)
    where
      nothing : (next : Piece) → bytes_of next ≢ [] → IsNothing next → ⊥
      nothing (whole l) some e = e
      nothing (last l) some e = some e
