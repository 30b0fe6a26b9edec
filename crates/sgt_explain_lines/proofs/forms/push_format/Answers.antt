use Rattle.std.proofs.Common.{subst}
use Rattle.sgt_explain_lines.specs.Places.{format_head, IsFormatSlip}
use Rattle.sgt_explain_lines.proofs.Adding.{shows-line}
use Rattle.sgt_explain_lines.proofs.Numbering.{on-ok}
use Rattle.sgt_explain_lines.proofs.Placing.{tells-line}
use Rattle.sgt_explain_lines.proofs.forms.push_format.Goals as goal

pub returns-clause-line : goal.returns-clause-line
returns-clause-line c = λ line h.
    on-ok c.push_format_slip.result _ _
    (λ more. shows-line _ _ line c.text_at-line.result.now _ _ _ _ c.in_ok-push_words.ensures.begins
    (c.text_at-line.ensures line h) c.in_ok-push_numbered.ensures (more.0, more.2)) c.push_format_slip.ensures

pub returns-clause-text : goal.returns-clause-text
returns-clause-text c = λ line h.
    on-ok c.push_format_slip.result _ _ (λ more. (
      more.0,
      subst (λ l. IsFormatSlip l more.0) (c.text_at-line.ensures line h) more.1,
      tells-line format_head 1 line c.text_at-line.result.now more.0 _ _ _ _ c.in_ok-push_words.ensures.text
          (c.text_at-line.ensures line h) c.in_ok-push_numbered.ensures more.2,
    )) c.push_format_slip.ensures
