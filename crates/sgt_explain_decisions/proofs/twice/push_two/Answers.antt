use Rattle.sgt_explain_lines.proofs.Numbering.{on-ok}
use Rattle.sgt_names.proofs.Elements.{two-parts}
use Rattle.sgt_explain_decisions.proofs.twice.push_two.Goals as goal

pub returns : goal.returns
returns c = λ two.
    on-ok c.push_numbered_decision-2.result _ _
    (λ e. two-parts _ _ _ _ _ (c.in_ok-push_numbered_decision.ensures two.one two.first) e)
    (c.push_numbered_decision-2.ensures two.other two.second)
