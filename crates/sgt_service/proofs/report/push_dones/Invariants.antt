use Rattle.std.proofs.Common.{◌≡◌, ◌++◌, map, take}
use Rattle.sgt_notation.specs.Spelling.{text_of_lines}
use Rattle.sgt_service.specs.Results.{done_text}
use Rattle.sgt_service.proofs.report.push_dones.Given as goal

abbrev pub invariant-loop-done : goal.invariant-loop-done
invariant-loop-done l = l.out.items ≡ l.initial.out.items ++ text_of_lines (map done_text (take l.done-index l.dones))
