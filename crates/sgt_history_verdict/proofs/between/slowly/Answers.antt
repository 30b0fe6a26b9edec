use Rattle.std.proofs.Common.{get_or, arith}
use Rattle.std.proofs.lemmas.Option.{slice_get-get_or}
use Rattle.sgt_history_verdict.proofs.LeastAlong.{best_to-next, best_to-none, best_to-whole}
use Rattle.sgt_history_verdict.proofs.between.slowly.Goals as goal

pub loop-place-init : goal.loop-place-init
loop-place-init c =
    best_to-none c.args.touches.now c.args.pairs.now c.args.ranks.now c.args.lines.now _ c.new-steps.ensures.items

pub loop-place-preserved : goal.loop-place-preserved
loop-place-preserved c =
    let lines = c.args.lines.now in
    let place = c.loop-place.place in
    best_to-next c.args.touches.now c.args.pairs.now c.args.ranks.now lines place c.loop-place.steps.items
    c.push.new.self.items c.least_between.result
    (get_or lines place 0) c.line_behind.result c.loop-place.invariant c.in_ok-push.ensures.items
    (slice_get-get_or lines place 0 c.loop-place-test.true) c.line_behind.ensures c.least_between.ensures

pub returns : goal.returns
returns c =
    best_to-whole c.args.touches.now c.args.pairs.now c.args.ranks.now c.args.lines.now c.loop-place.place
    c.loop-place.steps.items
    (omega (arith, c.loop-place-test.false)) (omega (arith, c.loop-place.auto.place-end)) c.loop-place.invariant
