use Rattle.std.proofs.Common.{arith}
use Rattle.sgt_history_kept.proofs.Passing.{noted-last}
use Rattle.sgt_history_kept.proofs.passed.note.Goals as goal

pub returns : goal.returns
returns c =
    noted-last c.args.sessions.now c.args.last.now.items c.widen.new.last.items c.args.line c.in-Some.session
    c.in-Some.ensures
    (omega (arith, c.in_ok-widen.ensures.room)) c.widen.ensures.same
