use Rattle.sgt_serve.proofs.Ends.{closed_none, closed_over}
use Rattle.sgt_serve.proofs.ending.close.Goals as goal

pub returns-then-begun-eq0 : goal.returns-then-begun-eq0
returns-then-begun-eq0 g c = closed_none c.args.core c.begun-begun.result _ c.begun-begun.ensures c.if-begun-eq0.true

pub returns : goal.returns
returns g c =
    closed_over c.args.core c.install_open.new.core c.withdraw_active.new.core c.begun-begun.result c.hand_out.result
    _ _
    c.begun-begun.ensures c.if-begun-eq0.false c.install_open.ensures c.withdraw_active.ensures c.hand_out.ensures
