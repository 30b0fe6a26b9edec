use Rattle.std.proofs.Common.{subst, sym}
use Rattle.sgt_audit_decisions.specs.Steps.{AreStepsAt}
use Rattle.sgt_audit_decisions.proofs.Grouping.{got, steps-at}
use Rattle.sgt_audit_decisions.proofs.steps.Steps.at.Goals as goal

pub returns-in-Some : goal.returns-in-Some
returns-in-Some c decisions is =
    let there = got _ _ _ _ c.deref.ensures.value c.in-Some.ensures.lookup.0 c.in-Some.ensures.lookup.1 in
    subst (AreStepsAt decisions c.args.site) (sym c.as_slice.ensures.value)
    (steps-at decisions c.args.self.now c.args.site c.in-Some.group.now is there)
