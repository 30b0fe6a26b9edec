use Rattle.std.proofs.Common.{◌≡◌}
use Rattle.crossbeam_channel.specs.Claims.{view, IsSeatAt}
use Rattle.crossbeam_channel.specs.Ends.{sends_on}
use Rattle.sgt_workers.specs.Queue.{sender_of}
use Rattle.sgt_workers.proofs.queue.send_stops.Given as goal

abbrev pub invariant-loop-k : goal.invariant-loop-k
invariant-loop-k g l = IsSeatAt (sends_on l.sender) l.pass × (view l.pass ≡ sender_of (view l.fn.pass).sent l._k)
