use Rattle.std.proofs.Common.{◌≡◌, ◌+◌, ◌*◌, length}
use Rattle.sgt_names.specs.Limits.{buffer_size}
use Rattle.sgt_pipe.specs.Ends.{Hears, Speaks}
use Rattle.sgt_serve.specs.Place.{kept_at}
use Rattle.sgt_serve.specs.private.Talking.{ComesOn, desk}
use Rattle.sgt_serve.proofs.talking.talk_on.Given as goal

abbrev pub invariant-lines : goal.invariant-lines
invariant-lines g l = record {
  comes : ComesOn
      (desk (kept_at (g.B.Bundles.handed l.fn.bundles) l.fn.server.refusals) l.fn.server.core l.fn.pipe.history
      l.fn.server.answers.items l.fn.inbox.held)
      (desk (kept_at (g.B.Bundles.handed l.bundles) l.server.refusals) l.server.core l.pipe.history
      l.server.answers.items l.inbox.held);
  hears : Hears (g.R.Source.tells l.fn.pipe.reader) (g.R.Source.tells l.pipe.reader) l.fn.pipe.history.given
      l.pipe.history.given (g.R.Source.failures l.fn.pipe.reader) (g.R.Source.failures l.pipe.reader);
  speaks : Speaks (g.W.Sink.holds l.fn.pipe.writer) (g.W.Sink.holds l.pipe.writer) l.fn.pipe.history.written
      l.pipe.history.written (g.W.Sink.failures l.fn.pipe.writer) (g.W.Sink.failures l.pipe.writer);
  asks : g.R.Source.asked l.pipe.reader + l.inbox.reads ≡ g.R.Source.asked l.fn.pipe.reader + l.fn.inbox.reads;
}

abbrev pub decreases-lines : goal.decreases-lines
decreases-lines g l = length l.inbox.held + l.inbox.reads * (buffer_size + 1)
