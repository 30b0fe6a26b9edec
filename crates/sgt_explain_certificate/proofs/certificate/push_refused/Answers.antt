use Rattle.sgt_explain_lines.proofs.Numbering.{on-ok}
use Rattle.sgt_explain_certificate.proofs.Refusing.{shows-refused}
use Rattle.sgt_explain_certificate.proofs.certificate.push_refused.Goals as goal

pub returns : goal.returns
returns c =
    on-ok c.push_numbered.result _ _ (λ s. shows-refused c.args.name.now c.args.words.now 2 c.args.line.now _ _ _ _
    c.in_ok-push_str.ensures.bytes c.in_ok-push_str-2.ensures.bytes s)
    c.push_numbered.ensures
