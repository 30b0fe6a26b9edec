use Rattle.sgt_names.proofs.Lists.{element_at}
use Rattle.sgt_audit_decisions.proofs.Grouping.{decisions-next, decisions-whole}
use Rattle.sgt_audit_decisions.proofs.steps.add_decisions.Goals as goal

pub loop-decision-preserved : goal.loop-decision-preserved
loop-decision-preserved c fresh =
    decisions-next c.args.decisions.now c.loop-decision.decision-index c.decision-item.result
    c.add_decision.new.groups (element_at _ _ _ c.loop-decision-test.true c.decision-item.is)
    (c.in_ok-add_decision.ensures _ (c.loop-decision.invariant fresh))

pub returns : goal.returns
returns c fresh = decisions-whole c.args.decisions.now c.loop-decision.decision-index c.loop-decision.groups
    c.loop-decision-test.false (c.loop-decision.invariant fresh)
