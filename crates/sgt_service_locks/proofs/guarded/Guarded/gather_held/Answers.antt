use Rattle.sgt_step.proofs.Pledging.{given-back}
use Rattle.sgt_service_locks.proofs.Gathering.{gathered_there}
use Rattle.sgt_service_locks.proofs.guarded.Guarded.gather_held.Goals as goal

pub returns-in-Ok-clause-edges : goal.returns-in-Ok-clause-edges
returns-in-Ok-clause-edges g c = (
  c.in_ok-more.more,
  c.in-Ok.ensures.ok,
  gathered_there c.args.self.now.certifier.history c.args.active.now c.args.here c.args.site.now
      c.gather_agreed.new.site c.in_ok-more.more
      (c.is_numbered.ensures.0 c.if-not-is_numbered.false) c.items-items.ensures.site c.in_ok-more.ensures.agreed
      c.in_ok-more.ensures.pledged c.in_ok-more.ensures.given c.in_ok-more.ensures.stands,
)

pub returns-in-Err-clause-err : goal.returns-in-Err-clause-err
returns-in-Err-clause-err g c =
    given-back _ _ _ _ _ c.in_ok-more.ensures.allowed.free c.in_ok-more.ensures.pledged c.give_back.ensures.given
