use Rattle.std.proofs.Common.{◌∙◌, ap}
use Rattle.sgt_workers.specs.declared.queue.Hold.{Hold}
use Rattle.sgt_workers.proofs.Moves.{takes, learns}
use Rattle.sgt_workers.proofs.queue.take.Goals as goal

pub recv_as-requires-clause-rule : goal.recv_as-requires-clause-rule
recv_as-requires-clause-rule g c = (
  takes _ _ (ap (λ (h : Hold). h.lent) c.loop.invariant.same ∙ c.requires.lent),
  learns _ _,
)
