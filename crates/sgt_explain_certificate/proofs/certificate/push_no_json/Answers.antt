use Rattle.sgt_explain_lines.proofs.Adding.{shows-more}
use Rattle.sgt_explain_lines.proofs.Numbering.{on-ok}
use Rattle.sgt_explain_certificate.proofs.certificate.push_no_json.Goals as goal

pub returns : goal.returns
returns c =
    on-ok c.push_remedy.result _ _
    (λ more. shows-more _ _ _ _ _ _ (shows-more _ _ _ _ _ _ c.in_ok-push_refused.ensures c.in_ok-push_break.ensures)
    more) c.push_remedy.ensures
