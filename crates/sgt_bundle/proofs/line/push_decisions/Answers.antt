use Rattle.std.proofs.Common.{arith}
use Rattle.std.proofs.lemmas.Grind.{common_steps}
use Rattle.sgt_names.specs.Limits.{max_sites}
use Rattle.sgt_bundle.specs.Text.{IsDecision}
use Rattle.sgt_names.proofs.Lists.{All-next, element_at}
use Rattle.sgt_bundle.proofs.InRange.{all-behind, all-none, on_ok-anyway}
use Rattle.sgt_bundle.proofs.line.push_decisions.Goals as goal
use Rattle.sgt_bundle.proofs.line.push_decisions.Goals.{in-Some+in_ok-push_decision+else-loop-decision-test, in_default}

pub loop-decision-preserved : goal.loop-decision-preserved
loop-decision-preserved c = (
  grind (arith, common_steps),
  All-next (IsDecision max_sites) c.in-Some.further.now c.loop-decision.decision-index c.decision-item.result
      (element_at c.in-Some.further.now c.loop-decision.decision-index c.decision-item.result
      (omega arith) c.decision-item.is) c.in_ok-push_decision-2.ensures.in_range c.loop-decision.invariant.1,
)

pub returns-clause-in_range : goal.returns-clause-in_range
returns-clause-in_range c =
    on_ok-anyway c.extend_from_slice-2.result
    (elim c.match-split_first.branch [
      | in-Some+in_ok-push_decision+else-loop-decision-test w ↦ all-behind (IsDecision max_sites) c.args.decisions.now
          w.in-Some.first.now w.in-Some.further.now w.loop-decision.decision-index w.in-Some.ensures.cases.0
          w.in_ok-push_decision.ensures.in_range (omega arith) w.loop-decision.invariant.1
      | in_default w ↦ all-none (IsDecision max_sites) c.args.decisions.now w.in_default.ensures.cases
    ])
