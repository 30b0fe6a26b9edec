use Rattle.std.proofs.Common.{◌≡◌, ◌++◌, map, take, codes}
use Rattle.sgt_notation.specs.Spelling.{text_of_lines}
use Rattle.sgt_serial.specs.Text.{operation_line}
use Rattle.sgt_serial.proofs.text.push_reads.Given as goal

abbrev pub invariant-loop-read : goal.invariant-loop-read
invariant-loop-read l = l.out.items ≡ l.fn.out.items ++ text_of_lines (map (operation_line (codes "r") l.tx) (take l.read-index l.reads))
