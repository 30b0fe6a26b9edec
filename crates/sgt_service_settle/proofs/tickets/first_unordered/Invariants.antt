use Rattle.std.proofs.Common.{take}
use Rattle.sgt_workers.specs.declared.ticket.Done.{Done as ADone}
use Rattle.sgt_service_settle.specs.Settled.{Rises}
use Rattle.sgt_service_settle.specs.private.Words.{IsLeastOf}
use Rattle.sgt_service_settle.proofs.tickets.first_unordered.Given as goal

abbrev pub invariant-loop-done : goal.invariant-loop-done
invariant-loop-done l = IsLeastOf (λ (d : ADone). d.job) (λ (d : ADone). Rises d
    → ⊥) (take l.done-index l.dones) l.least
