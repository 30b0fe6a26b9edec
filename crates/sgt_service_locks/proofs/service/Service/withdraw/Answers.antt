use Rattle.std.proofs.Common.{◌≡◌}
use Rattle.std.specs.Prelude.{vec_len}
use Rattle.sgt_workers.specs.declared.ticket.Ending.{Ending}
use Rattle.sgt_workers.specs.declared.ticket.Ending.TheVariants.{Withdrawn}
use Rattle.sgt_service_locks.specs.Undecided.{IsToldOfWithdraw}
use Rattle.sgt_service_locks.proofs.Stopping.{stop_back, stop_told, withdraw_stop, withdraw_call, withdraw_fault}
use Rattle.sgt_service_locks.proofs.service.Service.withdraw.Goals as goal

pub returns-clause-back : goal.returns-clause-back
returns-clause-back g c =
    let sites = vec_len c.args.self.now.sites in
    let stop = c.in-Err.stop in
    let why = withdraw_stop _ _ _ _ stop c.end_withdrawn.ensures.replays c.in-Err.ensures.why in
    rw c.back_of.ensures (stop_back (λ (v : Ending). v ≡ Withdrawn) c.args.active c.args.seat.now
    c.end_withdrawn.new.seat stop c.in-Err.ensures.stop
    (withdraw_call sites c.args.active stop why))

pub returns-clause-fault : goal.returns-clause-fault
returns-clause-fault g c =
    let stop = c.in-Err.stop in
    let why = withdraw_stop _ _ _ _ stop c.end_withdrawn.ensures.replays c.in-Err.ensures.why in
    rw c.back_of.ensures (withdraw_fault (vec_len c.args.self.now.sites) c.args.active stop why)

pub returns-clause-refused : goal.returns-clause-refused
returns-clause-refused g c =
    let stop = c.in-Err.stop in
    let why = withdraw_stop _ _ _ _ stop c.end_withdrawn.ensures.replays c.in-Err.ensures.why in
    rw c.back_of.ensures (stop_told (IsToldOfWithdraw (vec_len c.args.self.now.sites) c.args.active) c.args.active
    stop why)
