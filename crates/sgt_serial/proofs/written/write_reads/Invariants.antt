use Rattle.std.proofs.Common.{◌≡◌, ◌≤◌, map}
use Rattle.std.specs.Prelude.{codes, vec_capacity}
use Rattle.sgt_notation.specs.Spelling.{text_of_lines}
use Rattle.sgt_serial.specs.Report.{picked_of, read_at}
use Rattle.sgt_serial.specs.Text.{operation_line}
use Rattle.sgt_serial.proofs.Passing.{IsPassed}
use Rattle.sgt_serial.proofs.Spans.{text_in}
use Rattle.sgt_serial.proofs.written.write_reads.Given as goal

abbrev pub invariant-loop-place : goal.invariant-loop-place
invariant-loop-place g l = record {
  passed : IsPassed (g.W.Sink.holds l.fn.writer) (g.W.Sink.holds l.writer) l.fn.out.items l.out.items (text_in (operation_line (codes "r") l.tx) read_at l.logs l.operations l.place l.place-end)
      (text_of_lines (map (operation_line (codes "r") l.tx) (picked_of read_at l.logs l.tx)));
  capacity : vec_capacity l.fn.out ≤ vec_capacity l.out;
  quiet : g.W.Sink.failures l.writer ≡ g.W.Sink.failures l.fn.writer;
}
