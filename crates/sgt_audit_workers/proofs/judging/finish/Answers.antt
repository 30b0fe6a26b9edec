use Rattle.std.proofs.Common.{Bool, subst}
use Rattle.sgt_audit_workers.specs.Head.{IsHeadOf}
use Rattle.sgt_audit_workers.proofs.judging.finish.Goals as goal

pub returns-in-Ok-Once : goal.returns-in-Ok-Once
returns-in-Ok-Once g c second line will =
    let once = rw (c.in-Ok-Once.is, c.in-Ok-Once.field-0-is) at (c.wait-line.ensures second line will.reading) in
    subst (λ (s : Bool). IsHeadOf s line c.judge_once.result) will.format (c.judge_once.ensures line once)

pub returns-in-Ok-Judged : goal.returns-in-Ok-Judged
returns-in-Ok-Judged g c second line will =
    rw (c.in-Ok-Judged.is, c.in-Ok-Judged.field-0-is) at (c.wait-line.ensures second line will.reading)

pub returns-in-Err : goal.returns-in-Err
returns-in-Err g c second line will = rw c.in-Err.is at (c.wait-line.ensures second line will.reading)
