use Rattle.sgt_history_text.proofs.Fronts.{enters_array, enters_bad, enters_object}
use Rattle.sgt_history_text.proofs.shallow.enters.Goals as goal

pub returns-then-not-object-clause-enters : goal.returns-then-not-object-clause-enters
returns-then-not-object-clause-enters c = enters_array c.args.object _ _ _ c.if-not-object.true c.take_end_array.ensures

pub returns-in-Ok-clause-enters : goal.returns-in-Ok-clause-enters
returns-in-Ok-clause-enters c =
    enters_object c.args.object c.args.reader.now c.next_key.new.self c.in-Ok.key c.is_none.result
    c.if-not-object.false c.in-Ok.ensures.value c.is_none.ensures

pub returns-in-Err-clause-enters : goal.returns-in-Err-clause-enters
returns-in-Err-clause-enters c =
    enters_bad c.args.object c.args.reader.now c.next_key.new.self c.if-not-object.false c.in-Err.ensures.value
