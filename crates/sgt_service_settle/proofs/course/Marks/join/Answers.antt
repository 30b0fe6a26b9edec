use Rattle.std.proofs.Common.{refl}
use Rattle.sgt_service_settle.proofs.Joining.{follows_noted}
use Rattle.sgt_service_settle.proofs.course.Marks.join.Goals as goal

pub returns-clause-follows : goal.returns-clause-follows
returns-clause-follows c =
    λ yes. follows_noted c.args.links.now c.args.course.now c.args.deed.now c.note.new.self c.note.ensures.noted
    (c.if-not-follows.ensures refl)
