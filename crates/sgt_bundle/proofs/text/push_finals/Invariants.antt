use Rattle.std.proofs.Common.{◌≡◌, ◌++◌, All, drop, take, map}
use Rattle.std.specs.Io.{StartsWith}
use Rattle.sgt_notation.specs.Spelling.{line_text, text_of_lines, IsHolding}
use Rattle.sgt_notation.specs.declared.SectionLine.TheVariants.{Final}
use Rattle.sgt_bundle.proofs.text.push_finals.Given as goal

-- what is written, and the text of the rest, is the text of all; what is written is in its ranges, and stands behind
-- what was there
abbrev pub invariant-loop-item : goal.invariant-loop-item
invariant-loop-item l =
    (l.out.items ++ text_of_lines (map line_text (map Final (drop l.item-index l.finals))) ≡ l.fn.out.items
    ++ text_of_lines (map line_text (map Final l.finals)))
    × All IsHolding (take l.item-index l.finals)
    × StartsWith l.out.items l.fn.out.items
