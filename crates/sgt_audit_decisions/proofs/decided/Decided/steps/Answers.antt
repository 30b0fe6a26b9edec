use Rattle.std.proofs.Common.{◌<◌, All, List, subst, sym}
use Rattle.std.proofs.lemmas.Result.{IfOk-weaker}
use Rattle.sgt_bundle.specs.declared.certificate.Certificate.{Certificate}
use Rattle.sgt_bundle.specs.declared.certificate.Decision.{Decision}
use Rattle.sgt_audit_decisions.specs.Steps.{AreStepsOf, edges_in}
use Rattle.sgt_audit_decisions.specs.declared.steps.Edge.{Edge}
use Rattle.sgt_audit_decisions.proofs.Grouping.{certificate-within}
use Rattle.sgt_audit_decisions.proofs.decided.Decided.steps.Goals as goal

pub returns : goal.returns
returns c =
    IfOk-weaker c.new.result _ _ (λ steps is spelled.
    let within =
    subst (λ (b : Certificate). All (λ (e : Edge). e.step.label.site < b.sites)
    (edges_in c.args.self.now.decisions)) (sym c.self.view_is) (certificate-within c.args.self.now spelled) in
    subst (λ (ds : List Decision). AreStepsOf ds steps) c.decisions.ensures.same
    (is (subst (λ (ds : List Decision). All (λ (e : Edge). e.step.label.site < c.self.inside.certificate.sites)
    (edges_in ds)) (sym c.decisions.ensures.same) within)))
    c.new.ensures
