use Rattle.std.proofs.Common.{take}
use Rattle.sgt_certify_logs.specs.Steps.{IsEndStep, LeadFrom}
use Rattle.sgt_certify_logs.specs.declared.checks.EndStep.{EndStep}
use Rattle.sgt_certify_logs.proofs.checks.is_end_cycle.Given as goal

abbrev pub invariant-loop-step : goal.invariant-loop-step
invariant-loop-step l =
    LeadFrom (λ (s : EndStep). s.from) (λ (s : EndStep). s.to) (IsEndStep l.sites) l.start (take l.step-index l.steps)
    l.here
