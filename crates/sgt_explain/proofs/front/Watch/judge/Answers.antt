use Rattle.std.proofs.Common.{refl, arith}
use Rattle.sgt_explain.proofs.Fronts.{all-seen, long-faulty}
use Rattle.sgt_explain.proofs.front.Watch.judge.Goals as goal

pub returns-then-text-self-clause-judged : goal.returns-then-text-self-clause-judged
returns-then-text-self-clause-judged c =
    let fed = rw c.in_default.is at c.in_ok-fault.ensures.fed in
    all-seen c.feed.new.self _ c.args.text.now c.limit-limit.result fed.0 fed.1 c.limit-limit.ensures
    (omega (arith, c.if-text-self.true)) refl refl refl refl

pub returns-clause-judged : goal.returns-clause-judged
returns-clause-judged c =
    let fed = rw c.in_default.is at c.in_ok-fault.ensures.fed in
    long-faulty c.feed.new.self c.args.text.now c.limit-limit.result c.too_long.result fed.0 fed.1 c.limit-limit.ensures
    (omega (arith, c.if-text-self.false)) (omega (arith, c.well_formed)) c.too_long.ensures
