use Rattle.std.proofs.Common.{refl, get_or}
use Rattle.std.proofs.lemmas.Option.{slice_get-get_or}
use Rattle.sgt_history_time.proofs.InTime.{in_time-lags, in_time-next, in_time-whole}
use Rattle.sgt_history_time.proofs.order_checks.keeps_real_time.Goals as goal

pub returns-in_default : goal.returns-in_default
returns-in_default c =
    let order = c.args.order.now in
    let at = c.loop-at.at in
    let lags = rw c.in_default.is at c.latest_with.ensures.none in (
      λ yes. absurd cc,
      λ keeps. absurd (in_time-lags order c.args.times.now at c.loop-at.latest (get_or order at 0) c.loop-at.invariant
          (slice_get-get_or order at 0 c.loop-at-test.true) lags keeps),
    )

pub loop-at-preserved : goal.loop-at-preserved
loop-at-preserved c =
    let order = c.args.order.now in
    let at = c.loop-at.at in
    let passes = rw c.in-Some.is at c.latest_with.ensures.some in
    in_time-next order c.args.times.now at c.loop-at.latest (get_or order at 0) c.in-Some.next c.loop-at.invariant
    (slice_get-get_or order at 0 c.loop-at-test.true) passes

pub returns : goal.returns
returns c = (
  λ yes. in_time-whole c.args.order.now c.args.times.now c.loop-at.at c.loop-at.latest c.loop-at-test.false
      c.loop-at.invariant,
  λ keeps. refl,
)
