use Rattle.std.proofs.Common.{◌≤◌, arith}
use Rattle.sgt_names.proofs.Lists.{element_at, All-next, All-weaken, All-whole}
use Rattle.sgt_bundle.specs.Certificate.{decided_tx}
use Rattle.sgt_audit_decisions.proofs.table.greatest.Goals as goal
use Rattle.sgt_audit_decisions.proofs.table.greatest.Goals.{then-most-number, else-most-number}

pub loop-decision-preserved : goal.loop-decision-preserved
loop-decision-preserved c =
    let at = element_at _ _ _ c.loop-decision-test.true c.decision-item.is in
    let before = c.loop-decision.most in
    let after = c.if-most-number.most in
    let raised : before ≤ after = elim c.if-most-number.branch [
      | then-most-number w ↦ omega arith
      | else-most-number w ↦ omega arith
    ] in
    let above : decided_tx c.decision-item.result ≤ after =
    elim c.if-most-number.branch [ then-most-number w ↦ omega arith | else-most-number w ↦ omega arith ] in
    All-next (λ d. decided_tx d ≤ after) _ _ _ at above
    (All-weaken (λ d. decided_tx d ≤ before) (λ d. decided_tx d ≤ after) _ (λ d le. omega arith)
    c.loop-decision.invariant)

pub returns : goal.returns
returns c =
    All-whole (λ d. decided_tx d ≤ c.loop-decision.most) _ _ c.loop-decision-test.false c.loop-decision.invariant
