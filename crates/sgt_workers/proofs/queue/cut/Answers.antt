use Rattle.sgt_workers.proofs.Moves.{forks}
use Rattle.sgt_workers.proofs.queue.cut.Goals as goal

pub another-requires-clause-rule : goal.another-requires-clause-rule
another-requires-clause-rule c = forks _ _ c.requires.1
