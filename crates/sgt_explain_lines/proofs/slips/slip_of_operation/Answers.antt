use Rattle.sgt_explain_lines.proofs.Slipping.{spells-operation}
use Rattle.sgt_names.proofs.Elements.{none-weaker}
use Rattle.sgt_explain_lines.proofs.slips.slip_of_operation.Goals as goal

pub returns-in-Some-clause-none : goal.returns-in-Some-clause-none
returns-in-Some-clause-none c =
    none-weaker c.slip_of_tx_access.result _ _
    (λ both. spells-operation c.args.text.now _ _ c.in-Some.ensures.some both.0 both.1) c.slip_of_tx_access.ensures.none
