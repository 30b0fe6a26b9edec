use Rattle.std.proofs.Common.{subst, sym}
use Rattle.sgt_service_locks.specs.Undecided.{RefusesPledgeAt}
use Rattle.sgt_service_locks.proofs.guarded.Guarded.pledge.Goals as goal

pub returns-in-Err-clause-refused : goal.returns-in-Err-clause-refused
returns-in-Err-clause-refused g c =
    subst (RefusesPledgeAt c.args.here c.args.site.now c.args.active.now) (sym c.noted.ensures.same)
    c.in-Err.ensures.refused
