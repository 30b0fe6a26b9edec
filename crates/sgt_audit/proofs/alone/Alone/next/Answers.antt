use Rattle.sgt_audit.proofs.alone.Alone.next.Goals as goal

pub returns-in-Some-clause-follows : goal.returns-in-Some-clause-follows
returns-in-Some-clause-follows c b s =
    let read = rw c.in-Some.is at c.read_line.ensures in
    rw read.1 (c.next_line.ensures.follows read.0.0 b s)
