use Rattle.sgt_audit.proofs.alone.Alone.follow_entry.Goals as goal

pub returns-in-Some-clause-follows : goal.returns-in-Some-clause-follows
returns-in-Some-clause-follows c is edges b s =
    c.follow_known.ensures.follows is c.args.certificate.now edges b c.in-Some.ensures s
