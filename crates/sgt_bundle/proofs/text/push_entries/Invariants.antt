use Rattle.std.proofs.Common.{◌≡◌, ◌++◌, All, drop, take, map}
use Rattle.std.specs.Io.{StartsWith}
use Rattle.sgt_notation.specs.Spelling.{line_text, text_of_lines, IsEntry}
use Rattle.sgt_notation.specs.declared.SectionLine.TheVariants.{Logged}
use Rattle.sgt_bundle.proofs.text.push_entries.Given as goal

-- what is written, and the text of the rest, is the text of all; what is written is in its ranges, and stands behind
-- what was there
abbrev pub invariant-loop-entry : goal.invariant-loop-entry
invariant-loop-entry l =
    (l.out.items ++ text_of_lines (map line_text (map Logged (drop l.entry-index l.entries))) ≡ l.fn.out.items
    ++ text_of_lines (map line_text (map Logged l.entries)))
    × All IsEntry (take l.entry-index l.entries)
    × StartsWith l.out.items l.fn.out.items
