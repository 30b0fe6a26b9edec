use Rattle.std.proofs.Common.{◌≡◌, List, length, sym, subst, ◌∙◌}
use Rattle.std.specs.Prelude.{OnOk}
use Rattle.sgt_bundle.specs.declared.certificate.Step.{Step}
use Rattle.sgt_explain_decisions.specs.Sought.{AreSoughtFor}
use Rattle.sgt_explain_decisions.proofs.Seeking.{seeks-none, refuse-same}
use Rattle.sgt_explain_decisions.proofs.sought.add_walk_of.Goals as goal

pub returns-in_default-clause-seeks : goal.returns-in_default-clause-seeks
returns-in_default-clause-seeks c = seeks-none c.args.sought.now c.args.classes.now.items

pub returns-in-Refuse-clause-walk : goal.returns-in-Refuse-clause-walk
returns-in-Refuse-clause-walk c = λ tx walk same.
    let both = refuse-same c.in-Refuse.tx tx c.in-Refuse.walk walk (sym c.in-Refuse.is ∙ same) in
    let here : c.as_slice.result.now ≡ walk = c.as_slice.ensures ∙ both.1 in
    subst (λ (steps : List Step). OnOk c.add_walk.result (AreSoughtFor c.add_walk.new.sought tx steps (length steps)))
    here
    (subst (λ t. OnOk c.add_walk.result (AreSoughtFor c.add_walk.new.sought t c.as_slice.result.now
    (length c.as_slice.result.now))) both.0 c.add_walk.ensures.walk)
