use Rattle.sgt_explain_steps.specs.Unmet.{StepsTo}
use Rattle.sgt_explain_steps.proofs.Meetings.{NonePaired}
use Rattle.sgt_explain_steps.proofs.entries.is_met.Given as goal

abbrev pub invariant-loop-place : goal.invariant-loop-place
invariant-loop-place l = NonePaired (λ e f. StepsTo l.from l.step e f → ⊥) l.step.to l.entries l.place
