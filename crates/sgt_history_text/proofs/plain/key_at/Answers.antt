use Rattle.sgt_history_text.proofs.PlainTexts.{written_key, written_number_key}
use Rattle.sgt_history_text.proofs.plain.key_at.Goals as goal

pub returns-in-Some : goal.returns-in-Some
returns-in-Some c =
    written_key c.args.bytes.now _ c.args.from c.in-Some.to c.in_ok-between.ensures c.args.least c.args.most
    c.in-Some.length
    (c.is_within.ensures.0 c.if-not-is_within.false) c.in-Some.ensures

pub returns : goal.returns
returns c =
    written_number_key c.args.bytes.now _ c.args.from c.in_ok-to.to c.in_ok-between-2.ensures c.args.least c.args.most _
    c.in_ok-to.ensures.0 c.in_ok-to.ensures.1
