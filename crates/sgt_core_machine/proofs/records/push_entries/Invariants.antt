use Rattle.std.proofs.Common.{◌≡◌, ◌++◌, drop, map}
use Rattle.sgt_notation.specs.Spelling.{line_text, text_of_lines}
use Rattle.sgt_notation.specs.declared.SectionLine.TheVariants.{Logged}
use Rattle.sgt_core_machine.proofs.records.push_entries.Given as goal

-- what is written, and the text of the rest, is the text of all
abbrev pub invariant-loop-place : goal.invariant-loop-place
invariant-loop-place l = l.out.items ++ text_of_lines (map line_text (map Logged (drop l.place l.log.entries)))
    ≡ l.fn.out.items ++ text_of_lines (map line_text (map Logged l.log.entries))
