use Rattle.sgt_audit.proofs.kept.Kept.next.Goals as goal

pub returns-in-Some-clause-follows : goal.returns-in-Some-clause-follows
returns-in-Some-clause-follows c s here =
    let read = rw c.in-Some.is at c.read_line.ensures in
    rw read.1 (c.next_line.ensures.follows read.0.0 s here)

pub returns-in-None-clause-follows : goal.returns-in-None-clause-follows
returns-in-None-clause-follows c s here =
    c.unread.ensures c.args.line.now s (rw c.in-None.is at c.read_line.ensures) here
