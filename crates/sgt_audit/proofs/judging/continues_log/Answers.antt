use Rattle.sgt_audit.proofs.Places.{finals-follow, last-follows}
use Rattle.sgt_audit.proofs.judging.continues_log.Goals as goal

pub returns-then-place-ne0 : goal.returns-then-place-ne0
returns-then-place-ne0 c log o = finals-follow log c.args.place.now o c.if-place-ne0.true c.args.line.now

pub returns : goal.returns
returns c log o = last-follows log c.args.place.now o c.if-place-ne0.false c.args.line.now c.follows_last.result
    c.follows_last.ensures
