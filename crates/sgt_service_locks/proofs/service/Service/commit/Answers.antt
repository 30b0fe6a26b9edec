use Rattle.std.proofs.Common.{◌≢◌}
use Rattle.std.specs.Prelude.{vec_len}
use Rattle.sgt_workers.specs.declared.ticket.Ending.{Ending}
use Rattle.sgt_workers.specs.declared.ticket.Ending.TheVariants.{Withdrawn}
use Rattle.sgt_service_locks.specs.Undecided.{IsToldOfCommit}
use Rattle.sgt_service_locks.proofs.Stopping.{stop_back, stop_told, commit_stop, commit_call, commit_fault}
use Rattle.sgt_service_locks.proofs.service.Service.commit.Goals as goal

pub returns-clause-back : goal.returns-clause-back
returns-clause-back g c =
    let sites = vec_len c.args.self.now.sites in
    let stop = c.in-Err.stop in
    let why = commit_stop _ _ _ _ stop c.take_step.ensures.replays c.in-Err.ensures.why in
    rw c.back_of.ensures (stop_back (λ (v : Ending). v ≢ Withdrawn) c.args.active c.args.seat.now c.take_step.new.seat
    stop c.in-Err.ensures.stop
    (commit_call sites c.args.active stop why))

pub returns-clause-fault : goal.returns-clause-fault
returns-clause-fault g c =
    let stop = c.in-Err.stop in
    let why = commit_stop _ _ _ _ stop c.take_step.ensures.replays c.in-Err.ensures.why in
    rw c.back_of.ensures (commit_fault (vec_len c.args.self.now.sites) c.args.active stop why)

pub returns-clause-refused : goal.returns-clause-refused
returns-clause-refused g c =
    let stop = c.in-Err.stop in
    let why = commit_stop _ _ _ _ stop c.take_step.ensures.replays c.in-Err.ensures.why in
    rw c.back_of.ensures (stop_told (IsToldOfCommit (vec_len c.args.self.now.sites) c.args.active) c.args.active stop
    why)
