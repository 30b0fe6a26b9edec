use Rattle.std.proofs.Common.{get_or, Some, arith}
use Rattle.std.proofs.lemmas.Option.{slice_get-get_or}
use Rattle.sgt_history_verdict.proofs.Stepping.{along-next, along-whole}
use Rattle.sgt_history_verdict.proofs.Telling.{best-along}
use Rattle.sgt_history_verdict.proofs.quick.kept_along.Goals as goal

pub loop-place-preserved : goal.loop-place-preserved
loop-place-preserved c = λ touches pairs ranks behind are.
    let lines = c.args.lines.now in
    let place = c.loop-place.place in
    let step = c.in-Some.step in
    let found = best-along touches pairs ranks behind c.args.best.now (get_or lines place 0) c.line_behind.result step
    are c.in-Some.ensures.0 c.in-Some.ensures.1 in
    along-next touches pairs ranks lines place c.loop-place.steps.items c.push.new.self.items step
    (get_or lines place 0) c.line_behind.result
    (c.loop-place.invariant touches pairs ranks behind are) c.in_ok-push-in-Some.ensures.items
    (slice_get-get_or lines place 0 c.loop-place-test.true) c.line_behind.ensures
    found.0 c.in-Some.ensures.1 found.1

pub returns : goal.returns
returns c = λ touches pairs ranks behind are.
    along-whole touches pairs ranks c.args.lines.now c.loop-place.place c.loop-place.steps.items
    (omega (arith, c.loop-place-test.false))
    (omega (arith, c.loop-place.auto.place-end)) (c.loop-place.invariant touches pairs ranks behind are)
