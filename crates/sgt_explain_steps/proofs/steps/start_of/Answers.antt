use Rattle.std.proofs.Common.{◌-◌, arith, sym}
use Rattle.sgt_names.proofs.Lists.{element_at}
use Rattle.sgt_explain_steps.proofs.Meetings.{start_later}
use Rattle.sgt_explain_steps.proofs.steps.start_of.Goals as goal

pub returns : goal.returns
returns c =
    let step = c.index-walk-before.result in
    sym (start_later c.args.tx c.args.walk.now c.args.place step (omega arith)
    (element_at c.args.walk.now (c.args.place - 1) step (omega arith) c.index-walk-before.is))
