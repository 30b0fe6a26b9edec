use Rattle.sgt_explain_lines.specs.Places.{trailing_head, trailing_rule}
use Rattle.sgt_explain_lines.proofs.Adding.{shows-line}
use Rattle.sgt_explain_lines.proofs.Numbering.{on-ok}
use Rattle.sgt_explain_lines.proofs.Placing.{tells-line}
use Rattle.sgt_explain_lines.proofs.forms.push_trailing.Goals as goal

pub returns-clause-line : goal.returns-clause-line
returns-clause-line c = λ line h.
    on-ok c.push_trailing_rule.result _ _
    (λ e. shows-line _ _ line c.text_at.result.now _ _ _ _ c.in_ok-push_words.ensures.begins
    (c.text_at.ensures line h) c.in_ok-push_numbered.ensures (_, e)) c.push_trailing_rule.ensures

pub returns-clause-text : goal.returns-clause-text
returns-clause-text c = λ line h.
    on-ok c.push_trailing_rule.result _ _ (λ e. tells-line trailing_head c.args.number line c.text_at.result.now
    (trailing_rule c.args.number) _ _ _ _ c.in_ok-push_words.ensures.text
    (c.text_at.ensures line h) c.in_ok-push_numbered.ensures e) c.push_trailing_rule.ensures
