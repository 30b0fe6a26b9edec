use Rattle.sgt_audit_workers.proofs.Heads.{found-end, found-long}
use Rattle.sgt_audit_workers.proofs.head.stopped.Goals as goal

pub returns-in-TooLong-clause-stops : goal.returns-in-TooLong-clause-stops
returns-in-TooLong-clause-stops c told old new is =
    found-long c.args.machine.progress told old c.args.number c.args.next c.args.line.now new is c.too_long.result
    c.in-TooLong.is c.too_long.ensures

pub returns-in-Cut-clause-stops : goal.returns-in-Cut-clause-stops
returns-in-Cut-clause-stops c told old new is =
    found-end c.args.machine.progress told old c.args.number c.args.next c.args.line.now new is c.verdict_on.result
    c.end.result c.in-Cut.is c.end.ensures.ends c.verdict_on.ensures
