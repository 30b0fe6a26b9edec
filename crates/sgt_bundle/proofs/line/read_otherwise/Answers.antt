use Rattle.std.proofs.Common.{Err}
use Rattle.sgt_bundle.proofs.Answered.{each-fault, only-answer}
use Rattle.sgt_bundle.proofs.line.read_otherwise.Goals as goal

pub returns-in-Ok-Some-clause-only : goal.returns-in-Ok-Some-clause-only
returns-in-Ok-Some-clause-only c =
    let why = rw c.in-Ok-Some.field-0-is at c.in-Ok-Some.ensures in
    only-answer (Err c.in-Ok-Some.fault) c.args.line.now tt why

pub returns-in-Ok-Some-clause-each : goal.returns-in-Ok-Some-clause-each
returns-in-Ok-Some-clause-each c =
    let why = rw c.in-Ok-Some.field-0-is at c.in-Ok-Some.ensures in
    each-fault (Err c.in-Ok-Some.fault) c.args.line.now tt why
