use Rattle.std.proofs.Common.{◌≡◌, ◌++◌, map, take}
use Rattle.sgt_notation.specs.Spelling.{text_of_lines}
use Rattle.sgt_serial.specs.Text.{final_line}
use Rattle.sgt_serial.proofs.text.push_finals.Given as goal

abbrev pub invariant-loop-value : goal.invariant-loop-value
invariant-loop-value l = l.out.items ≡ l.fn.out.items ++ text_of_lines (map final_line (take l.value-index l.values))
