use Rattle.std.proofs.Common.{◌≡◌, ◌≤◌, map, drop}
use Rattle.std.specs.Prelude.{vec_capacity}
use Rattle.sgt_notation.specs.Spelling.{text_of_lines}
use Rattle.std.specs.List.{flat_map}
use Rattle.sgt_serial.specs.Report.{run_of}
use Rattle.sgt_serial.specs.Text.{run_lines}
use Rattle.sgt_serial.proofs.Passing.{IsPassed}
use Rattle.sgt_serial.proofs.written.write_runs.Given as goal

abbrev pub invariant-loop-tx : goal.invariant-loop-tx
invariant-loop-tx g l = record {
  passed : IsPassed (g.W.Sink.holds l.fn.writer) (g.W.Sink.holds l.writer) l.fn.out.items l.out.items
      (text_of_lines (flat_map run_lines (map (run_of l.logs) (drop l.tx-index l.order))))
      (text_of_lines (flat_map run_lines (map (run_of l.logs) l.order)));
  capacity : vec_capacity l.fn.out ≤ vec_capacity l.out;
  quiet : g.W.Sink.failures l.writer ≡ g.W.Sink.failures l.fn.writer;
}
