use Rattle.std.proofs.Common.{arith}
use Rattle.std.proofs.lemmas.Grind.{common_steps}
use Rattle.sgt_names.specs.Limits.{max_sites}
use Rattle.sgt_bundle.specs.Text.{IsStep}
use Rattle.sgt_names.proofs.Lists.{All-next, element_at}
use Rattle.sgt_bundle.proofs.InRange.{all-behind, all-none, on_ok-anyway}
use Rattle.sgt_bundle.proofs.line.push_steps.Goals as goal
use Rattle.sgt_bundle.proofs.line.push_steps.Goals.{in-Some+in_ok-push_step+else-loop-step-test, in_default}

pub loop-step-preserved : goal.loop-step-preserved
loop-step-preserved c = (
  grind (arith, common_steps),
  All-next (IsStep max_sites) c.in-Some.further.now c.loop-step.step-index c.step-item.result
      (element_at c.in-Some.further.now c.loop-step.step-index c.step-item.result (omega arith) c.step-item.is)
      c.push_step-in-loop-step.ensures.in_range c.loop-step.invariant.1,
)

pub returns-clause-in_range : goal.returns-clause-in_range
returns-clause-in_range c =
    on_ok-anyway c.extend_from_slice-2.result
    (elim c.match-split_first.branch [
      | in-Some+in_ok-push_step+else-loop-step-test w ↦ all-behind (IsStep max_sites) c.args.walk.now
          w.in-Some.first.now w.in-Some.further.now w.loop-step.step-index w.in-Some.ensures.cases.0
          w.push_step.ensures.in_range (omega arith) w.loop-step.invariant.1
      | in_default w ↦ all-none (IsStep max_sites) c.args.walk.now w.in_default.ensures.cases
    ])
