use Rattle.sgt_explain_lines.proofs.Numbering.{on-ok}
use Rattle.sgt_explain_lines.proofs.forms.push_format_slip.Goals as goal

pub returns : goal.returns
returns c = on-ok c.push_text.result _ _ (λ e. (c.format_slip.result.now, c.format_slip.ensures, e)) c.push_text.ensures
