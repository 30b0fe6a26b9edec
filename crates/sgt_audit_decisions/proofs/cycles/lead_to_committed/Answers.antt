use Rattle.std.proofs.Common.{sym, ◌∙◌}
use Rattle.std.proofs.lemmas.Bool.{true≢false, eq-eqb}
use Rattle.sgt_audit_decisions.proofs.Loops.{all-through}
use Rattle.sgt_audit_decisions.proofs.Walks.{LeadsThrough}
use Rattle.sgt_audit_decisions.proofs.cycles.lead_to_committed.Goals as goal
use Rattle.sgt_names.proofs.Lists.{element_at, All-next}

pub loop-step-preserved : goal.loop-step-preserved
loop-step-preserved c =
    All-next (LeadsThrough c.args.certificate.now.decisions c.args.number c.args.tx) _ _ _
    (element_at _ _ _ c.loop-step-test.true c.step-item.is) (
      λ e. true≢false (sym (eq-eqb _ _ e) ∙ sym c.eq.ensures ∙ c.if-eq.false),
      c.is_committed_before.ensures.0 c.if-not-is_committed_before.false,
    )
    c.loop-step.invariant

pub returns : goal.returns
returns c =
    all-through (LeadsThrough c.args.certificate.now.decisions c.args.number c.args.tx) _ _ c.loop-step-test.false
    c.loop-step.invariant
