use Rattle.std.proofs.Common.{subst}
use Rattle.sgt_certifier.specs.History.{decide}
use Rattle.sgt_service_locks.specs.Refused.{HandsOn}
use Rattle.sgt_service_locks.specs.Undecided.{undecided}
use Rattle.sgt_service_locks.proofs.service.Service.take_step.Goals as goal

pub returns-in-Err-decide-clause-why : goal.returns-in-Err-decide-clause-why
returns-in-Err-decide-clause-why g c =
    let edges = c.in-Ok.gathered.0 in
    undecided edges c.in-Err-decide.fault c.in-Ok.ensures.may c.in-Ok.ensures.edges
    (subst (λ s. HandsOn s (decide c.args.active.now.handle edges) c.in-Err-decide.fault) c.gathered.ensures.same.0
    c.in-Err-decide.ensures.err.0)
