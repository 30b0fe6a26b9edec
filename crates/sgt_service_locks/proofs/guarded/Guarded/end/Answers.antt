use Rattle.sgt_service_locks.proofs.Decisions.{noted_awaits}
use Rattle.sgt_service_locks.proofs.guarded.Guarded.end.Goals as goal

pub returns-in-Ok-clause-awaits : goal.returns-in-Ok-clause-awaits
returns-in-Ok-clause-awaits g c = λ _ committed.
    noted_awaits c.args.self.now.certifier c.installed.new.self c.args.active.now.tx c.args.here _
    c.args.active.now.draft.touched c.in-Ok.ensures.ok (c.requires committed)
