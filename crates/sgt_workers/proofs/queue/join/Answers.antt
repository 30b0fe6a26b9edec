use Rattle.sgt_workers.proofs.Moves.{joins}
use Rattle.sgt_workers.proofs.queue.join.Goals as goal

pub absorb-requires-clause-rule : goal.absorb-requires-clause-rule
absorb-requires-clause-rule c = joins _ _ _ _ c.requires.sends c.requires.out
