use Rattle.std.proofs.Common.{◌≡◌, ◌++◌, All, drop, take, map}
use Rattle.sgt_notation.specs.Spelling.{line_text, text_of_lines}
use Rattle.sgt_bundle.specs.Text.{sections_from, IsLog}
use Rattle.sgt_bundle.proofs.text.push_sections.Given as goal

-- what is written, and the text of the rest, is the text of all; and what is written is in its ranges
abbrev pub invariant-loop-k : goal.invariant-loop-k
invariant-loop-k l =
    (l.out.items ++ text_of_lines (map line_text (sections_from l.k (drop l.k l.sites))) ≡ l.fn.out.items
    ++ text_of_lines (map line_text (sections_from 0 l.sites)))
    × All IsLog (take l.k l.sites)
