use Rattle.std.proofs.Common.{◌∙◌}
use Rattle.sgt_service.proofs.Reporting.{text_is}
use Rattle.sgt_service.proofs.engine.run_text.Goals as goal

pub returns : goal.returns
returns c =
    let text = c.in_ok-bytes.ensures.text in
    text_is c.args.settled _ c.in_ok-verdict.verdict _ _ _ _ _ _ _ _ _ _ c.in_ok-whole.ensures
    (c.as_slice.ensures.value ∙ text) (c.as_slice-2.ensures.value ∙ text)
    c.in_ok-verdict.ensures.judged c.in_ok-verdict.ensures.headline
    (c.as_slice-dones.ensures.value ∙ c.into_dones-told.ensures.dones)
    c.outcome_of-outcome.ensures (c.as_bytes.ensures.value ∙ c.in_ok-line.ensures)
    c.new-text.ensures.items c.in_ok-push_dones.ensures c.in_ok-extend_from_slice.ensures.items
    c.in_ok-extend_from_slice-2.ensures.items
    c.in_ok-extend_from_slice-3.ensures.items
