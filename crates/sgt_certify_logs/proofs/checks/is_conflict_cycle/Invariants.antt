use Rattle.std.proofs.Common.{take}
use Rattle.sgt_certify_logs.specs.Steps.{IsConflictStep, LeadFrom}
use Rattle.sgt_certify_logs.specs.declared.checks.ConflictStep.{ConflictStep}
use Rattle.sgt_certify_logs.proofs.checks.is_conflict_cycle.Given as goal

abbrev pub invariant-loop-step : goal.invariant-loop-step
invariant-loop-step l =
    LeadFrom (λ (s : ConflictStep). s.from) (λ (s : ConflictStep). s.to) (IsConflictStep l.sites) l.start
    (take l.step-index l.steps) l.here
