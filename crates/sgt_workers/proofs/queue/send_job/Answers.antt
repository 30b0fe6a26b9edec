use Rattle.std.proofs.Common.{◌∙◌, ap, arith}
use Rattle.sgt_workers.specs.declared.queue.Hold.{Hold}
use Rattle.sgt_workers.proofs.Moves.{sends_job, learns}
use Rattle.sgt_workers.proofs.queue.send_job.Goals as goal

pub send_as-requires-clause-rule : goal.send_as-requires-clause-rule
send_as-requires-clause-rule g c =
    let same = c.loop.invariant.same in
    let sends = ap (λ (h : Hold). h.sends) same ∙ c.requires.sends.0 in
    let stops = ap (λ (h : Hold). h.stops) same ∙ c.requires.sends.1 in
    (sends_job _ _ _ _ sends stops (omega (arith, c.requires.next, ap (λ (h : Hold). h.sent) same)), learns _ _)
