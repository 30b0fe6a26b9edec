use Rattle.std.proofs.Common.{◌≡◌, ◌-◌, length}
use Rattle.std.specs.Io.KnownBytes.{Consumes}
use Rattle.sgt_explain_logs.specs.Explained.{IsPeeked}
use Rattle.sgt_explain_logs.proofs.peeking.peek.Given as goal

abbrev pub invariant-reads : goal.invariant-reads
invariant-reads g l = record {
  came : Consumes (g.R.Source.tells l.initial.reader) (g.R.Source.tells l.reader) l.text.items;
  peeked : IsPeeked l.initial.reader l.reader l.text.items (g.R.Source.last l.reader);
  quiet : g.R.Source.failures l.reader ≡ g.R.Source.failures l.initial.reader;
  room : length l.buffer.items ≡ 65536;
}

abbrev pub decreases-reads : goal.decreases-reads
decreases-reads g l = 12 - length l.text.items
