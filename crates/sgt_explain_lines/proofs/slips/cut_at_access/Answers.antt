use Rattle.sgt_explain_lines.proofs.Slipping.{lacks-access, no-access}
use Rattle.sgt_explain_lines.proofs.slips.cut_at_access.Goals as goal

pub returns-in_err-name-clause-none : goal.returns-in_err-name-clause-none
returns-in_err-name-clause-none c = rw c.from_residual.ensures (lacks-access c.args.text.now c.in_err-name.ensures.none)

pub returns-in-None-clause-none : goal.returns-in-None-clause-none
returns-in-None-clause-none c = no-access c.args.text.now _ _ c.in_ok-name.ensures.some c.in-None.ensures.none
