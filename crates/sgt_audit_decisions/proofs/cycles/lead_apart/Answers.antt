use Rattle.std.proofs.Common.{sym, ◌∙◌}
use Rattle.sgt_names.proofs.Lists.{element_at}
use Rattle.sgt_audit_decisions.proofs.Loops.{answered-no, answered-yes, not-false, not-true}
use Rattle.sgt_audit_decisions.proofs.Stops.{leads-twice, leads-next, all-apart}
use Rattle.sgt_audit_decisions.proofs.cycles.lead_apart.Goals as goal

pub returns-then-not-branch : goal.returns-then-not-branch
returns-then-not-branch c =
    answered-no (leads-twice c.args.walk.now c.loop-step.step-index c.step-item.result c.loop-step.met
    c.loop-step.invariant (element_at _ _ _ c.loop-step-test.true c.step-item.is)
    (not-false _ (sym c.in_ok-insert.ensures.added ∙ c.if-not-branch.true)))

pub loop-step-preserved : goal.loop-step-preserved
loop-step-preserved c =
    leads-next c.args.walk.now c.loop-step.step-index c.step-item.result c.loop-step.met c.loop-step.invariant
    (element_at _ _ _ c.loop-step-test.true c.step-item.is)
    c.insert.new.self (not-true _ (sym c.in_ok-insert.ensures.added ∙ c.if-not-branch.false))
    (λ q. c.in_ok-insert.ensures.updates.0 q)

pub returns : goal.returns
returns c =
    answered-yes (all-apart c.args.walk.now c.loop-step.step-index c.loop-step.met c.loop-step.invariant
    c.loop-step-test.false)
