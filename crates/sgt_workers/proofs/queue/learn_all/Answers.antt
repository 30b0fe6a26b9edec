use Rattle.sgt_workers.proofs.Moves.{learns_all}
use Rattle.sgt_workers.proofs.queue.learn_all.Goals as goal

pub learn_as-requires-clause-rule : goal.learn_as-requires-clause-rule
learn_as-requires-clause-rule c = learns_all _ _ c.requires.seat.1 c.requires.none_out c.requires.stopped
