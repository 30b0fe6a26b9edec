use Rattle.sgt_service_settle.specs.private.Acts.{actor}
use Rattle.sgt_service_settle.proofs.Placing.{point_here}
use Rattle.sgt_service_settle.proofs.points.walk.Goals as goal

pub returns-else-is_behind-clause-point : goal.returns-else-is_behind-clause-point
returns-else-is_behind-clause-point c =
    point_here actor c.args.acts.now c.args.number c.loop-step.at c.requires c.loop-step.invariant
    (c.is_behind.ensures.under c.if-is_behind.false) (c.is_below.ensures.over c.if-is_below.false)
