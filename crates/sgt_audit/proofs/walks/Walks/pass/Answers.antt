use Rattle.std.proofs.Common.{false, refl}
use Rattle.sgt_audit.specs.declared.walks.Walks.{Walks}
use Rattle.sgt_audit.proofs.LoggedConflicts.{met-ended, met-missed}
use Rattle.sgt_audit.proofs.walks.Walks.pass.Goals as goal

pub returns-then-not-met : goal.returns-then-not-met
returns-then-not-met c ds b edges fits are meets is =
    let old = c.args.self.now in
    let new : Walks = record { steps = old.steps; met = false } in
    met-missed ds b old new edges are refl is c.args.met b.current fits meets c.if-not-met.true refl

pub returns-else-not-met : goal.returns-else-not-met
returns-else-not-met c ds b edges fits are meets is =
    let old = c.args.self.now in
    met-ended ds b old old edges are refl is c.args.met b.current fits meets c.if-not-met.false refl
