use Rattle.sgt_audit.proofs.alone.Alone.follow.Goals as goal

pub returns-clause-follows : goal.returns-clause-follows
returns-clause-follows c is edges b s =
    c.follow_known.ensures.follows is c.args.certificate.now edges b c.look_up_entry-known.ensures s
