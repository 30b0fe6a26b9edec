use Rattle.sgt_explain_transaction.proofs.Beside.{beside-run, from-to}
use Rattle.sgt_explain_transaction.proofs.sorted.beside.Goals as goal

pub returns : goal.returns
returns c =
    let sorted = c.args.sorted.now in
    let other = c.args.other.now in
    let from = c.count_before-from.result in
    let to = c.count_upto-to.result in
    let low = c.count_before-from.ensures in
    let high = c.count_upto-to.ensures in
    beside-run sorted other from to (from-to sorted other from to low.within low.point high.point) high.within low.point
    high.point
