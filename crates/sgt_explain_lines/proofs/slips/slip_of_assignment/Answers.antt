use Rattle.sgt_explain_lines.proofs.Slipping.{spells-holding}
use Rattle.sgt_names.proofs.Elements.{none-weaker}
use Rattle.sgt_explain_lines.proofs.slips.slip_of_assignment.Goals as goal

pub returns-in-Some-clause-none : goal.returns-in-Some-clause-none
returns-in-Some-clause-none c =
    none-weaker c.slip_of_pair.result _ _ (λ both. spells-holding c.args.text.now _ _ c.in-Some.ensures.some both.0
    both.1) c.slip_of_pair.ensures.none
