use Rattle.std.proofs.Common.{◌≡◌, ◌++◌, All, drop, take, map}
use Rattle.std.specs.Io.{StartsWith}
use Rattle.sgt_notation.specs.Spelling.{line_text, text_of_lines, IsHolding}
use Rattle.sgt_notation.specs.declared.SectionLine.TheVariants.{Initial}
use Rattle.sgt_bundle.proofs.text.push_items.Given as goal

-- what is written, and the text of the rest, is the text of all; what is written is in its ranges, and stands behind
-- what was there
abbrev pub invariant-loop-item : goal.invariant-loop-item
invariant-loop-item l =
    (l.out.items ++ text_of_lines (map line_text (map Initial (drop l.item-index l.items))) ≡ l.fn.out.items
    ++ text_of_lines (map line_text (map Initial l.items)))
    × All IsHolding (take l.item-index l.items)
    × StartsWith l.out.items l.fn.out.items
