use Rattle.std.proofs.Common.{◌≤◌, inl, inr, refl, arith}
use Rattle.sgt_explain.proofs.FrontLines.{front-faulty, front-judged, front-lf, front-room, front-size, seen-on}
use Rattle.sgt_explain.proofs.Fronts.{ends-line, searched}
use Rattle.sgt_explain.proofs.front.Watch.feed_front.Goals as goal

pub lines-init : goal.lines-init
lines-init c = (c.requires, inr (refl, refl))

pub overflow_add-self-in-Line : goal.overflow_add-self-in-Line
overflow_add-self-in-Line c =
    let (line, front, follows) = rw c.in-Line.is at c.in_ok-n.ensures.passes in
    let few = front-room c.lines.self c.args.text.now c.lines.invariant.0 c.lines-test.true line c.in-Line.n front in
    omega (arith, few, c.well_formed)

pub lines-preserved : goal.lines-preserved
lines-preserved c =
    let w = c.lines.self in
    let text = c.args.text.now in
    let (line, front, follows) = rw c.in-Line.is at c.in_ok-n.ensures.passes in
    let here : c.args.self.now.seen ≤ w.seen = seen-on c.args.self.now w text c.lines.invariant.0 c.lines.invariant.1 in
    let size = front-size (searched w text) line c.in-Line.n front in (
      front-judged w text c.lines.invariant.0 c.lines-test.true line c.in-Line.n front _ refl refl refl follows,
      inl (omega (arith, here, c.lines-test.true, size)),
    )

pub unreachable-requires : goal.unreachable-requires
unreachable-requires c =
    let (line, n, front, follows) = rw c.in-Faulty.is at c.in_ok-n.ensures.passes in
    front-lf (searched c.lines.self c.args.text.now) line n front c.in_default.ensures.none

pub returns-in-Faulty-clause-fed : goal.returns-in-Faulty-clause-fed
returns-in-Faulty-clause-fed c =
    let w = c.lines.self in
    let text = c.args.text.now in
    let (line, n, front, follows) = rw c.in-Faulty.is at c.in_ok-n.ensures.passes in
    front-faulty w text c.lines.invariant.0 c.lines-test.true line n front c.in-Some.n
    (ends-line w text c.in-Some.n c.in-Some.ensures.some) c.front.new.self.progress c.in-Faulty.fault follows

pub returns-in-Faulty-clause-on : goal.returns-in-Faulty-clause-on
returns-in-Faulty-clause-on c =
    let here =
    seen-on c.args.self.now c.lines.self c.args.text.now c.lines.invariant.0 c.lines.invariant.1 in
    omega (arith, here, c.lines-test.true)
