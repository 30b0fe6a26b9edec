use Rattle.std.proofs.Common.{true, refl, subst}
use Rattle.sgt_audit.specs.Progress.{Stands}
use Rattle.sgt_audit.specs.private.Ending.{KeepsSections}
use Rattle.sgt_audit.proofs.NextStage.{hands-out}
use Rattle.sgt_audit.proofs.machine.Machine.end.Goals as goal

pub returns-in-Reading-clause-ends : goal.returns-in-Reading-clause-ends
returns-in-Reading-clause-ends k s stands short =
    k.end.ensures.ends s (subst (λ q. Stands q s) k.in-Reading.is stands) short

pub returns-in-Reading-clause-kept : goal.returns-in-Reading-clause-kept
returns-in-Reading-clause-kept k kept =
    hands-out k.end.result k.in-Reading.kept k.end.ensures.same (subst (KeepsSections true) k.in-Reading.is kept.1 refl)
