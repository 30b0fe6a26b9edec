use Rattle.std.proofs.Common.{◌≡◌, ℕ, List, ◌++◌, length, All, drop}
use Rattle.sgt_notation.specs.Spelling.{text_of_lines, HasNoLf}
use Rattle.sgt_explain_lines.proofs.input.after_line.Given as goal

abbrev pub invariant-loop : goal.invariant-loop
invariant-loop l = (lines : List (List ℕ)) (rest : List ℕ) → All HasNoLf lines → l.number ≡ length lines
    → l.bytes ≡ text_of_lines lines ++ rest
    → l.rest ≡ text_of_lines (drop l.counter lines) ++ rest
