use Rattle.sgt_notation.proofs.Numbers.{just_zero}
use Rattle.sgt_explain_lines.proofs.slips.read_digits.Goals as goal

pub returns-then-text-eq1-clause-ok : goal.returns-then-text-eq1-clause-ok
returns-then-text-eq1-clause-ok c = λ digits. just_zero c.args.text.now c.if-text-eq48.true c.if-text-eq1.true
