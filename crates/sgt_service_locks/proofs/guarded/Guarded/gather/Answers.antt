use Rattle.std.proofs.Common.{subst, sym}
use Rattle.sgt_service_locks.specs.Undecided.{RefusesGather}
use Rattle.sgt_service_locks.proofs.guarded.Guarded.gather.Goals as goal

pub returns-in-Err-clause-refused : goal.returns-in-Err-clause-refused
returns-in-Err-clause-refused g c =
    subst (RefusesGather c.args.self.now.certifier.history c.args.here c.args.site.now c.args.active.now)
    (sym c.noted.ensures.same) c.in-Err.ensures.refused
