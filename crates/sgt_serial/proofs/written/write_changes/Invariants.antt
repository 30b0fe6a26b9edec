use Rattle.std.proofs.Common.{◌≡◌, ◌≤◌, map}
use Rattle.std.specs.Prelude.{vec_capacity}
use Rattle.sgt_notation.specs.Spelling.{text_of_lines}
use Rattle.sgt_serial.specs.Report.{picked_of, write_at}
use Rattle.sgt_serial.specs.Text.{change_line}
use Rattle.sgt_serial.proofs.Passing.{IsPassed}
use Rattle.sgt_serial.proofs.Spans.{text_in}
use Rattle.sgt_serial.proofs.written.write_changes.Given as goal

abbrev pub invariant-loop-place : goal.invariant-loop-place
invariant-loop-place g l = record {
  passed : IsPassed (g.W.Sink.holds l.fn.writer) (g.W.Sink.holds l.writer) l.fn.out.items l.out.items
      (text_in (change_line l.tx) write_at l.logs l.operations l.place l.place-end)
      (text_of_lines (map (change_line l.tx) (picked_of write_at l.logs l.tx)));
  capacity : vec_capacity l.fn.out ≤ vec_capacity l.out;
  quiet : g.W.Sink.failures l.writer ≡ g.W.Sink.failures l.fn.writer;
}
