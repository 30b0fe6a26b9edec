use Rattle.std.proofs.Common.{ℕ, get_or, length, subst, Some, arith, List}
use Rattle.std.proofs.lemmas.Option.{slice_get-get_or}
use Rattle.sgt_history_verdict.proofs.LeastAlong.{best-leads, best_to-next, best_to-none, best_to-whole}
use Rattle.sgt_history_verdict.proofs.between.quickly.Goals as goal

pub loop-place-init : goal.loop-place-init
loop-place-init c =
    λ touches pairs ranks are. best_to-none touches pairs ranks c.args.lines.now _ c.new-steps.ensures.items

pub loop-place-preserved : goal.loop-place-preserved
loop-place-preserved c = λ touches pairs ranks are.
    let lines = c.args.lines.now in
    let place = c.loop-place.place in
    let a = get_or lines place 0 in
    let b = c.line_behind.result in
    let o = c.in-Some.step in
    let best = best-leads touches pairs ranks c.args.behind.now (length pairs) a b o c.in-Some.ensures.0
    (are a o c.in-Some.ensures.1) in
    best_to-next touches pairs ranks lines place c.loop-place.steps.items c.push.new.self.items o a b
    (c.loop-place.invariant touches pairs ranks are)
    c.in_ok-push-in-Some.ensures.items (slice_get-get_or lines place 0 c.loop-place-test.true) c.line_behind.ensures
    best

pub returns : goal.returns
returns c = λ touches pairs ranks are.
    best_to-whole touches pairs ranks c.args.lines.now c.loop-place.place c.loop-place.steps.items
    (omega (arith, c.loop-place-test.false))
    (omega (arith, c.loop-place.auto.place-end)) (c.loop-place.invariant touches pairs ranks are)
