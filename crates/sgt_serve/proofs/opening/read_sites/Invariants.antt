use Rattle.std.proofs.Common.{◌≡◌, ◌+◌, ◌*◌, length}
use Rattle.sgt_names.specs.Limits.{buffer_size}
use Rattle.sgt_pipe.specs.Ends.{Hears}
use Rattle.sgt_serve.specs.private.Opening.{HasSites}
use Rattle.sgt_serve.proofs.opening.read_sites.Given as goal

abbrev pub invariant-lines : goal.invariant-lines
invariant-lines g l = record {
  has : HasSites l.sites.items l.pipe.history l.inbox.held;
  hears : Hears (g.R.Source.tells l.fn.pipe.reader) (g.R.Source.tells l.pipe.reader) l.fn.pipe.history.given
      l.pipe.history.given (g.R.Source.failures l.fn.pipe.reader) (g.R.Source.failures l.pipe.reader);
  writer : l.pipe.writer ≡ l.fn.pipe.writer;
  quiet : l.refusals ≡ l.fn.refusals;
  asks : g.R.Source.asked l.pipe.reader + l.inbox.reads ≡ g.R.Source.asked l.fn.pipe.reader + l.fn.inbox.reads;
}

abbrev pub decreases-lines : goal.decreases-lines
decreases-lines g l = length l.inbox.held + l.inbox.reads * (buffer_size + 1)
