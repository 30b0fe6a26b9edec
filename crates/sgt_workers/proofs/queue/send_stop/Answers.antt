use Rattle.std.proofs.Common.{◌∙◌, ap}
use Rattle.sgt_workers.specs.declared.queue.Hold.{Hold}
use Rattle.sgt_workers.proofs.Moves.{sends_stop, learns}
use Rattle.sgt_workers.proofs.queue.send_stop.Goals as goal

pub send_as-requires-clause-rule : goal.send_as-requires-clause-rule
send_as-requires-clause-rule g c =
    (sends_stop _ _ _ (ap (λ (h : Hold). h.sends) c.loop.invariant.same ∙ c.requires.sends), learns _ _)
