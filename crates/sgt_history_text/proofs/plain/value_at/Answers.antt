use Rattle.sgt_history_text.proofs.PlainTexts.{written_escaped, written_number_value, written_value}
use Rattle.sgt_history_text.proofs.plain.value_at.Goals as goal

pub returns-in-Some : goal.returns-in-Some
returns-in-Some c =
    written_value c.args.bytes.now _ c.args.from c.in-Some.to c.in_ok-between.ensures _ c.in-Some.ensures

pub returns-in-Some-number_at : goal.returns-in-Some-number_at
returns-in-Some-number_at c =
    written_number_value c.args.bytes.now _ c.args.from c.in-Some-number_at.to c.in_ok-between-2.ensures _
    c.in-Some-number_at.ensures.0 c.in-Some-number_at.ensures.1

pub returns : goal.returns
returns c =
    written_escaped c.args.bytes.now _ c.args.from c.in_ok-to.to c.in_ok-between-3.ensures c.in_ok-to.ensures
