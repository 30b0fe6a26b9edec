use Rattle.std.proofs.Common.{◌≡◌, ◌++◌, map, take}
use Rattle.sgt_notation.specs.Spelling.{text_of_lines}
use Rattle.sgt_serial.specs.Text.{change_line}
use Rattle.sgt_serial.proofs.text.push_changes.Given as goal

abbrev pub invariant-loop-write : goal.invariant-loop-write
invariant-loop-write l =
    l.out.items ≡ l.fn.out.items ++ text_of_lines (map (change_line l.tx) (take l.write-index l.writes))
