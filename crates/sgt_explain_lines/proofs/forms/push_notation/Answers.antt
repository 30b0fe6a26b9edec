use Rattle.std.specs.Prelude.{string_bytes}
use Rattle.sgt_explain_lines.proofs.Adding.{shows-line}
use Rattle.sgt_explain_lines.proofs.Numbering.{on-ok}
use Rattle.sgt_explain_lines.proofs.Slipping.{adds-slip, tells-slip}
use Rattle.sgt_explain_lines.proofs.forms.push_notation.Goals as goal

pub returns-clause-line : goal.returns-clause-line
returns-clause-line c = λ line h.
    on-ok c.push_slip.result _ _
    (λ more. shows-line _ _ line c.text_at-line.result.now _ _ _ _ c.in_ok-push_words.ensures.begins
    (c.text_at-line.ensures line h) c.in_ok-push_numbered.ensures (adds-slip _ _ _ more)) c.push_slip.ensures

pub returns-clause-slip : goal.returns-clause-slip
returns-clause-slip c = λ line h.
    on-ok c.push_slip.result _ _ (λ more. tells-slip c.args.number line c.text_at-line.result.now
    (string_bytes c.args.out.now) (string_bytes c.push_words.new.out) (string_bytes c.push_numbered.new.out)
    (string_bytes c.push_slip.new.out) c.in_ok-push_words.ensures.text
    (c.text_at-line.ensures line h) c.in_ok-push_numbered.ensures more) c.push_slip.ensures
