use Rattle.std.proofs.Common.{◌≡◌, ◌++◌, drop, map}
use Rattle.sgt_notation.specs.Spelling.{line_text, text_of_lines}
use Rattle.sgt_bundle.specs.Text.{sections_from}
use Rattle.sgt_core_machine.specs.Cut.{finals_at, logs_at}
use Rattle.sgt_core_machine.proofs.cutting.push_sections.Given as goal

-- what is written, and the text of the rest, is the text of all; and so for the values
abbrev pub invariant-loop-k : goal.invariant-loop-k
invariant-loop-k l = record {
  text : l.out.items ++ text_of_lines (map line_text (sections_from l.k (logs_at (drop l.k l.places))))
      ≡ l.fn.out.items ++ text_of_lines (map line_text (sections_from 0 (logs_at l.places)));
  finals : l.finals.items ++ finals_at (drop l.k l.places) ≡ finals_at l.places;
}
