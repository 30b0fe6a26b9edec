use Rattle.sgt_notation.specs.declared.SectionLine.TheVariants as Line
use Rattle.sgt_explain_lines.proofs.forms.item_in.Goals as goal

pub returns-in-Err-clause-none : goal.returns-in-Err-clause-none
returns-in-Err-clause-none c = λ h is e. c.in-Err.ensures.1 (Line.Initial h) is e
