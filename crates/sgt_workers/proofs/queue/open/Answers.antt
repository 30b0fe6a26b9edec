use Rattle.sgt_workers.proofs.Moves.{begins}
use Rattle.sgt_workers.proofs.queue.open.Goals as goal

pub bounded_with-requires-clause-rule : goal.bounded_with-requires-clause-rule
bounded_with-requires-clause-rule c = begins
