use Rattle.sgt_history_kept.proofs.deciding.decided.Goals as goal

pub returns-in-Some : goal.returns-in-Some
returns-in-Some c = λ h from.
    let serial = rw c.in-Some.is at c.in_ok-order.ensures in
    serial h from

pub returns-in-Some-2 : goal.returns-in-Some-2
returns-in-Some-2 c = λ h from.
    let cycle = rw c.in-Some-2.is at c.in_ok-cycle.ensures in
    cycle h from
