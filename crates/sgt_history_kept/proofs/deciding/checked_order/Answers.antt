use Rattle.std.proofs.Common.{subst}
use Rattle.sgt_history_kept.specs.Decided.{GoesForward}
use Rattle.sgt_history_kept.proofs.Deciders.{forward-serves}
use Rattle.sgt_history_kept.proofs.Leasts.{committed-least}
use Rattle.sgt_history_kept.proofs.deciding.checked_order.Goals as goal

pub returns : goal.returns
returns c = λ h from.
    let a = c.args.asked.now in
    let n = c.args.lines in
    let edges = c.args.edges.now in
    let order = c.in-Some-2.order.items in
    let least = rw c.in-Some-2.is at c.in_ok-order.ensures in
    record {
      keeps = forward-serves h n edges a from order (subst (GoesForward h a) c.as_slice-2.ensures.value
          (c.in_ok-holds.ensures c.if-not-holds.false h from));
      least = committed-least h n edges a from order (least h from);
    }
