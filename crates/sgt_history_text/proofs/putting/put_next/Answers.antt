use Rattle.std.proofs.lemmas.Bool.{MatchBool-at_false, MatchBool-at_true}
use Rattle.std.proofs.lemmas.Result.{IfOk-weaker}
use Rattle.sgt_history_text.proofs.Appended.{next_passed, next_put}
use Rattle.sgt_history_text.proofs.putting.put_next.Goals as goal

pub returns-then-are-clause-put : goal.returns-then-are-clause-put
returns-then-are-clause-put c =
    IfOk-weaker c.put_operation.result _ _
    (λ found put. next_put c.args.reader.now c.put_operation.new.reader c.args.builder.now
    c.put_operation.new.builder c.args.are c.if-are.true found put) c.put_operation.ensures.put

pub returns-then-branch-clause-put : goal.returns-then-branch-clause-put
returns-then-branch-clause-put c =
    next_passed c.args.reader.now c.pass.new.reader c.args.builder.now c.args.builder.now c.args.are c.if-are.false
    (MatchBool-at_true _ _ c.if-branch.true c.in_ok-pass.ensures.passes)
