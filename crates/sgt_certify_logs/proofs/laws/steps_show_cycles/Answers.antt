use Rattle.sgt_certify_logs.specs.Steps.{IsConflictStep, IsEndStep}
use Rattle.sgt_certify_logs.specs.Witness.{EndsBefore, PrecedesCommitted}
use Rattle.sgt_certify_logs.specs.declared.checks.ConflictStep.{ConflictStep}
use Rattle.sgt_certify_logs.specs.declared.checks.EndStep.{EndStep}
use Rattle.sgt_certify_logs.proofs.Round.{conflict-step, end-step, round-cycle}
use Rattle.sgt_certify_logs.proofs.laws.steps_show_cycles.Goals as goal

pub returns : goal.returns
returns c = record {
  ends = λ sites steps round.
      round-cycle (λ (s : EndStep). s.from) (λ (s : EndStep). s.to) (IsEndStep sites) (EndsBefore sites)
      (end-step sites) steps round;
  conflicts = λ sites steps round.
      round-cycle (λ (s : ConflictStep). s.from) (λ (s : ConflictStep). s.to) (IsConflictStep sites)
      (PrecedesCommitted sites) (conflict-step sites) steps round;
}
