use Rattle.std.proofs.Common.{◌≡◌, ◌≤◌, map, drop}
use Rattle.std.specs.Prelude.{vec_capacity}
use Rattle.sgt_notation.specs.Spelling.{text_of_lines}
use Rattle.sgt_serial.specs.Text.{final_line}
use Rattle.sgt_serial.proofs.Passing.{IsPassed}
use Rattle.sgt_serial.proofs.written.write_finals.Given as goal

abbrev pub invariant-loop-value : goal.invariant-loop-value
invariant-loop-value g l = record {
  passed : IsPassed (g.W.Sink.holds l.fn.writer) (g.W.Sink.holds l.writer) l.fn.out.items l.out.items
      (text_of_lines (map final_line (drop l.value-index l.finals)))
      (text_of_lines (map final_line l.finals));
  capacity : vec_capacity l.fn.out ≤ vec_capacity l.out;
  quiet : g.W.Sink.failures l.writer ≡ g.W.Sink.failures l.fn.writer;
}
