use Rattle.std.proofs.Common.{◌≡◌, take}
use Rattle.std.specs.List.{flat_map}
use Rattle.sgt_notation.specs.Spelling.{text_of_lines}
use Rattle.sgt_serial.specs.Text.{run_lines}
use Rattle.sgt_serial.proofs.report.SerialReport.to_text.Given as goal

abbrev pub invariant-loop-run : goal.invariant-loop-run
invariant-loop-run l = l.out.items ≡ text_of_lines (flat_map run_lines (take l.run-index l.run-items))
