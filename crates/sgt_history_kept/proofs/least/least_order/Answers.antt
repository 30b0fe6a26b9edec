use Rattle.std.proofs.Common.{All, subst, sym}
use Rattle.sgt_graph.specs.Ordered.{IsOrdered}
use Rattle.sgt_history_kept.specs.Decided.{IsStepAmong}
use Rattle.sgt_history_kept.proofs.Leasts.{among-sound, order-least, steps-join}
use Rattle.sgt_history_kept.proofs.least.least_order.Goals as goal

pub order-requires-clause-ends : goal.order-requires-clause-ends
order-requires-clause-ends c =
    let edges = c.args.edges.now in
    let a = c.args.asked.now in
    steps-join c.args.lines a edges c.as_slice-2.result.now
    (subst (All (IsStepAmong c.args.lines edges a)) (sym c.as_slice-2.ensures.value) c.in_ok-all.ensures)

pub returns-in-Order : goal.returns-in-Order
returns-in-Order c = λ h from.
    let edges = c.args.edges.now in
    let a = c.args.asked.now in
    let all = c.as_slice-2.result.now in
    let among = subst (All (IsStepAmong c.args.lines edges a)) (sym c.as_slice-2.ensures.value) c.in_ok-all.ensures in
    order-least h c.args.lines edges a from all (among-sound h c.args.lines edges a from all among)
    c.in-Order.order.items (subst (IsOrdered c.args.lines all) c.in-Order.is c.in_ok-order.ensures)
