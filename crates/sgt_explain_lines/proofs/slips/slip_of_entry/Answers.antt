use Rattle.std.proofs.Common.{sym, ◌∙◌}
use Rattle.sgt_explain_lines.proofs.Slipping.{spells-entry, spells-end}
use Rattle.sgt_names.proofs.Elements.{none-weaker}
use Rattle.sgt_explain_lines.proofs.slips.slip_of_entry.Goals as goal

pub returns-then-is_operation_letter-clause-none : goal.returns-then-is_operation_letter-clause-none
returns-then-is_operation_letter-clause-none c =
    none-weaker c.slip_of_operation.result _ _ (spells-entry _ c.args.line.now _ (sym c.is_operation_letter.ensures
    ∙ c.if-is_operation_letter.true) c.in-Some.ensures.cases.0) c.slip_of_operation.ensures.none

pub returns-then-is_end_letter-clause-none : goal.returns-then-is_end_letter-clause-none
returns-then-is_end_letter-clause-none c =
    none-weaker c.slip_of_tx.result _ _ (spells-end _ c.args.line.now _ (sym c.is_end_letter.ensures
    ∙ c.if-is_end_letter.true) c.in-Some.ensures.cases.0) c.slip_of_tx.ensures.none
