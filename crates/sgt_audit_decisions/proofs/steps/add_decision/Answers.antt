use Rattle.std.proofs.Common.{◌++◌, ◌∙◌, List, ap, subst, sym}
use Rattle.std.proofs.lemmas.List.{append-nil}
use Rattle.std.proofs.lemmas.Result.{on_ok_weaker}
use Rattle.sgt_bundle.specs.declared.certificate.Decision.{Decision}
use Rattle.sgt_bundle.specs.declared.certificate.Step.{Step}
use Rattle.sgt_audit_decisions.specs.Steps.{edges_from, edges_of}
use Rattle.sgt_audit_decisions.specs.private.Grouped.{AreGrouped}
use Rattle.sgt_audit_decisions.specs.declared.steps.Edge.{Edge}
use Rattle.sgt_audit_decisions.proofs.Grouping.{no-edges}
use Rattle.sgt_audit_decisions.proofs.steps.add_decision.Goals as goal

pub returns-in-Refuse : goal.returns-in-Refuse
returns-in-Refuse c =
    let new = c.add_walk.new.groups in
    on_ok_weaker c.add_walk.result (λ adds edges is.
    subst (λ (d : Decision). AreGrouped (edges ++ edges_of d) new) (sym c.in-Refuse.is)
    (subst (λ (w : List Step). AreGrouped (edges ++ edges_from c.in-Refuse.tx w) new) c.as_slice.ensures
    (adds edges is))) c.add_walk.ensures

pub returns-in_default : goal.returns-in_default
returns-in_default c edges is =
    subst (λ (es : List Edge). AreGrouped es c.args.groups.now)
    (sym (ap (λ (es : List Edge). edges ++ es) (no-edges c.args.decision.now c.in_default.not-Refuse)
    ∙ append-nil edges)) is
