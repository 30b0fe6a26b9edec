use Rattle.sgt_service.proofs.Sums.{amounts_grow, begin_amounts_grow, begin_parts_stay, begins_grow, parts_stay}
use Rattle.sgt_service.proofs.running.run.Goals as goal

pub returns-clause-parts : goal.returns-clause-parts
returns-clause-parts g c = parts_stay c.args.seats.items c.in_ok-dones.seats.items c.in_ok-dones.ensures.states

pub returns-clause-begin_parts : goal.returns-clause-begin_parts
returns-clause-begin_parts g c =
    begin_parts_stay c.args.seats.items c.in_ok-dones.seats.items c.in_ok-dones.ensures.states

pub returns-clause-begins : goal.returns-clause-begins
returns-clause-begins g c =
    begin_amounts_grow c.args.scripts.now c.args.seats.items c.in_ok-dones.seats.items c.in_ok-dones.dones.items
    c.in_ok-dones.ensures.shares

pub returns-clause-counted : goal.returns-clause-counted
returns-clause-counted g c =
    amounts_grow c.args.scripts.now c.args.seats.items c.in_ok-dones.seats.items c.in_ok-dones.dones.items
    c.in_ok-dones.ensures.shares

pub returns-clause-begun : goal.returns-clause-begun
returns-clause-begun g c =
    begins_grow c.args.scripts.now c.args.seats.items c.in_ok-dones.seats.items c.in_ok-dones.dones.items
    c.in_ok-dones.ensures.shares
