use Rattle.sgt_explain_lines.proofs.Numbering.{on-ok}
use Rattle.sgt_explain_lines.proofs.slips.push_slip.Goals as goal

pub returns : goal.returns
returns c = on-ok c.push_of.result _ _ (λ e. (c.slip_of.result, c.slip_of.ensures, e)) c.push_of.ensures
