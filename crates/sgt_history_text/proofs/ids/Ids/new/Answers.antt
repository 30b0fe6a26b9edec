use Rattle.sgt_history_text.proofs.Keys.{interned-next, texts-once}
use Rattle.sgt_history_text.proofs.ids.Ids.new.Goals as goal

pub loop-number-preserved : goal.loop-number-preserved
loop-number-preserved c = λ ids are.
    interned-next c.args.names.now c.loop-number.table c.intern.new.self c.loop-number.number c.get.result.now
    c.in_ok-intern.field-0
    (texts-once c.args.names.now ids are) (c.loop-number.invariant ids are) c.get.ensures c.in_ok-intern.ensures
