use Rattle.std.proofs.Common.{◌∙◌, sym}
use Rattle.sgt_explain_logs.proofs.Findings.{behind-all}
use Rattle.sgt_explain_logs.proofs.engine.end_of.Goals as goal

pub returns-in_default : goal.returns-in_default
returns-in_default c = λ bytes is faultless. behind-all bytes c.args.answer.now.outcome c.args.answer.now.text.items
    c.end_of_no.result c.in_default.not-Yes is faultless
    (λ refusal lines told. c.end_of_no.ensures refusal lines (c.as_slice.ensures.value ∙ told))
