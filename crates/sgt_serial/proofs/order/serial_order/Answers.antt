use Rattle.std.proofs.lemmas.Result.{IfOk-weaker}
use Rattle.sgt_serial.proofs.order.serial_order.Goals as goal

pub returns : goal.returns
returns c = IfOk-weaker c.in_order.result _ _ (λ v of. of c.args.decisions.now c.in_ok-ranked.ensures)
    c.in_order.ensures
