use Rattle.sgt_names.proofs.Lists.{element_at}
use Rattle.sgt_audit_decisions.proofs.Grouping.{part-start, part-next, part-whole}
use Rattle.sgt_audit_decisions.proofs.steps.add_walk.Goals as goal

pub loop-step-init : goal.loop-step-init
loop-step-init c = part-start c.args.from c.args.walk.now c.args.groups.now

pub loop-step-preserved : goal.loop-step-preserved
loop-step-preserved c =
    part-next c.args.from c.loop-step.at c.loop-step.step-index c.args.walk.now c.step-item.result c.args.groups.now
    c.loop-step.groups c.add_edge.new.groups c.loop-step-test.true
    (element_at _ _ _ c.loop-step-test.true c.step-item.is) c.in_ok-add_edge.ensures c.loop-step.invariant

pub returns : goal.returns
returns c = part-whole c.args.from c.loop-step.at c.loop-step.step-index c.args.walk.now c.args.groups.now
    c.loop-step.groups c.loop-step-test.false c.loop-step.invariant
