use Rattle.sgt_explain_lines.proofs.Slipping.{spells-site, spells-item, spells-final, spells-logged}
use Rattle.sgt_names.proofs.Elements.{none-weaker}
use Rattle.sgt_explain_lines.proofs.slips.slip_of_words.Goals as goal

pub returns-in-Some-clause-none : goal.returns-in-Some-clause-none
returns-in-Some-clause-none c =
    none-weaker c.slip_of_site.result _ _ (spells-site c.args.line.now _ c.in-Some.ensures) c.slip_of_site.ensures.none

pub returns-in-Some-behind_word-clause-none : goal.returns-in-Some-behind_word-clause-none
returns-in-Some-behind_word-clause-none c =
    none-weaker c.slip_of_assignment.result _ _ (spells-item c.args.line.now _ c.in-Some-behind_word.ensures)
    c.slip_of_assignment.ensures.none

pub returns-in-Some-behind_word-2-clause-none : goal.returns-in-Some-behind_word-2-clause-none
returns-in-Some-behind_word-2-clause-none c =
    none-weaker c.slip_of_assignment-in-Some-behind_word-2.result _ _
    (spells-final c.args.line.now _ c.in-Some-behind_word-2.ensures)
    c.slip_of_assignment-in-Some-behind_word-2.ensures.none

pub returns-clause-none : goal.returns-clause-none
returns-clause-none c =
    none-weaker c.slip_of_entry.result _ _ (spells-logged c.args.line.now) c.slip_of_entry.ensures.none
