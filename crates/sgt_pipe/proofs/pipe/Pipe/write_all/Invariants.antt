use Rattle.std.proofs.Common.{◌≡◌, ◌≤◌, ◌-◌, length, take}
use Rattle.sgt_pipe.specs.Acts.{WritesAll}
use Rattle.sgt_pipe.proofs.pipe.Pipe.write_all.Given as goal

abbrev pub invariant-writes : goal.invariant-writes
invariant-writes g l = record {
  within : l.at ≤ length l.bytes;
  wrote : WritesAll (take l.at l.bytes) (g.W.Sink.holds l.fn.self.writer) (g.W.Sink.holds l.self.writer)
      l.fn.self.history.written l.self.history.written;
  quiet : g.W.Sink.failures l.self.writer ≡ g.W.Sink.failures l.fn.self.writer;
  given : l.self.history.given ≡ l.fn.self.history.given;
  waits : l.self.history.waits ≡ l.fn.self.history.waits;
  reader : l.self.reader ≡ l.fn.self.reader;
  refusals : l.self.refusals ≡ l.fn.self.refusals;
}

abbrev pub decreases-writes : goal.decreases-writes
decreases-writes g l = length l.bytes - l.at
