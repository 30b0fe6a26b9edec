use Rattle.sgt_explain_lines.proofs.Numbering.{on-ok}
use Rattle.sgt_explain_decisions.proofs.Behind.{tells-end}
use Rattle.sgt_explain_decisions.proofs.ends.push_end.Goals as goal

pub returns : goal.returns
returns c =
    on-ok c.push_reason.result _ _
    (λ why. tells-end c.args.decisions.now c.args.placed.now c.args.section.now.entries.items
    c.as_slice.result.now c.tx-tx.result c.args.logged.now
    c.end_of-ended.result c.is_some.result why.0 _ _ _ c.as_slice.ensures.value c.tx-tx.ensures
    c.end_of-ended.ensures.there c.end_of-ended.ensures.none c.is_some.ensures why.1
    c.in_ok-push_both.ensures why.2) c.push_reason.ensures
