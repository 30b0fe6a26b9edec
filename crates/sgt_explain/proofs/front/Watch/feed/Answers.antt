use Rattle.std.proofs.Common.{inl, inr, refl, arith}
use Rattle.std.specs.Prelude.{None}
use Rattle.sgt_explain.specs.Watched.{HasGoneOn, IsBehind}
use Rattle.sgt_explain.proofs.FrontLines.{gone-on}
use Rattle.sgt_explain.proofs.Fronts.{ends-line, line-faulty, line-judged, number-room, passed-line}
use Rattle.sgt_explain.proofs.front.Watch.feed.Goals as goal

pub lines-init : goal.lines-init
lines-init c = (c.requires, inr (refl, refl))

pub overflow_add-self-in-lines-2 : goal.overflow_add-self-in-lines-2
overflow_add-self-in-lines-2 c =
    let w = c.feed_front.new.self in
    let text = c.args.text.now in
    let n = c.in-Some-find_lf.n in
    let behind : IsBehind w text = rw c.in_default.is at c.in_ok-fault.ensures.fed in
    let few = number-room w text n behind (ends-line w text n c.in-Some-find_lf.ensures.some) in
    omega (arith, few, c.well_formed)

pub lines-preserved : goal.lines-preserved
lines-preserved c =
    let w = c.feed_front.new.self in
    let text = c.args.text.now in
    let n = c.in-Some-find_lf.n in
    let behind : IsBehind w text = rw c.in_default.is at c.in_ok-fault.ensures.fed in
    let on : HasGoneOn c.lines.self w None = rw c.in_default.is at c.in_ok-fault.ensures.on in
    let all = gone-on c.args.self.now c.lines.self w text None c.lines.invariant.0 c.lines.invariant.1 on in (
      line-judged w text n behind (ends-line w text n c.in-Some-find_lf.ensures.some) _ refl refl refl
          (λ s stands. rw c.in_default-2.is at (c.in_ok-fault-2.ensures.follows s stands)),
      inl (passed-line c.args.self.now w text n behind all),
    )

pub returns-in-Some-2-clause-fed : goal.returns-in-Some-2-clause-fed
returns-in-Some-2-clause-fed c =
    let w = c.feed_front.new.self in
    let text = c.args.text.now in
    let n = c.in-Some-find_lf.n in
    let behind : IsBehind w text = rw c.in_default.is at c.in_ok-fault.ensures.fed in
    line-faulty w text n behind (ends-line w text n c.in-Some-find_lf.ensures.some) c.line.new.self.progress
    c.in-Some-2.fault (λ s stands. rw c.in-Some-2.is at (c.in_ok-fault-2.ensures.follows s stands))
