use Rattle.std.proofs.Common.{subst}
use Rattle.sgt_audit.specs.Progress.{Stands}
use Rattle.sgt_audit.proofs.NextStage.{long-breaks, long-trails}
use Rattle.sgt_audit_decisions.proofs.Loops.{refuted}
use Rattle.sgt_audit.proofs.machine.Machine.too_long.Goals as goal

pub returns-then-is_complete : goal.returns-then-is_complete
returns-then-is_complete k s p stands other long =
    long-trails s p ((k.is_complete.ensures s (subst (λ q. Stands q s) k.in-Reading.is stands)).0
    k.if-is_complete.true) long

pub returns-else-is_complete : goal.returns-else-is_complete
returns-else-is_complete k s p stands other long =
    let here = subst (λ q. Stands q s) k.in-Reading.is stands in
    long-breaks k.in-Reading.kept s p here
    (refuted k.is_complete.result (k.is_complete.ensures s here) k.if-is_complete.false) long
