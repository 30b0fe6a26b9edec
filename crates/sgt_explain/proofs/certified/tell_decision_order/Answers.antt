use Rattle.std.proofs.Common.{sym, ◌∙◌, subst}
use Rattle.sgt_explain_decisions.specs.Placed.{ArePlaced}
use Rattle.sgt_explain.proofs.ShownDecisions.{misplaced-certificate, misplaced-entry, shows-misplaced}
use Rattle.sgt_explain.proofs.Telling.{on-all}
use Rattle.sgt_explain.proofs.certified.tell_decision_order.Goals as goal

pub returns-in_default : goal.returns-in_default
returns-in_default c =
    λ first. absurd (misplaced-certificate c.args.bytes.now c.args.number first
    (λ d held. sym c.in_default.is ∙ c.in_ok-certificate.ensures.only d held))

pub returns-in_default-logged_at : goal.returns-in_default-logged_at
returns-in_default-logged_at c =
    λ first. absurd (misplaced-entry c.args.bytes.now c.args.number first c.in_default-logged_at.ensures)

pub returns : goal.returns
returns c =
    on-all _ c.push_decision_order.result
    (λ first. shows-misplaced c.args.bytes.now c.args.number first c.push_decision_order.result
    c.in_ok-section.section c.in-Some.certificate c.in-Some-logged_at.logged c.as_slice.result.now _ _
    c.in_ok-section.ensures
    (λ d held. sym c.in-Some.is ∙ c.in_ok-certificate.ensures.only d held)
    c.in-Some-logged_at.ensures
    (subst (λ ds. ArePlaced ds c.as_slice.result.now) c.decisions-decisions.ensures
    (subst (λ ps. ArePlaced c.decisions-decisions.result.now ps) (sym c.as_slice.ensures.value)
    c.in_ok-placed.ensures))
    c.push_decision_order.ensures)
