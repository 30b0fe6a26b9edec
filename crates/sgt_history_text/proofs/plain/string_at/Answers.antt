use Rattle.sgt_history_text.proofs.PlainTexts.{string_spans}
use Rattle.sgt_history_text.proofs.plain.string_at.Goals as goal

pub returns : goal.returns
returns c =
    string_spans c.args.bytes.now c.args.from _ _ _ c.in_ok-open.ensures c.bare_end-end.ensures.behind
    c.bare_end-end.ensures.within
    c.bare_end-end.ensures.bare c.in_ok-to.ensures
