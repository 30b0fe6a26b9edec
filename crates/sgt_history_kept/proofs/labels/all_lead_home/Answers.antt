use Rattle.std.proofs.Common.{◌-◌, get_or, length, arith}
use Rattle.std.proofs.lemmas.Option.{slice_get-get_or}
use Rattle.sgt_history_kept.proofs.Firsts.{lead-next}
use Rattle.sgt_history_kept.proofs.labels.all_lead_home.Goals as goal

pub loop-place-init : goal.loop-place-init
loop-place-init c = λ place a b lt. absurd (omega (arith, lt))

pub loop-place-preserved : goal.loop-place-preserved
loop-place-preserved c =
    let cycle = c.args.cycle.now in
    let place = c.loop-place.place in
    lead-next c.args.labels.now cycle place (get_or cycle place 0) c.line_behind-next.result (length cycle - place - 1)
    c.loop-place.invariant (slice_get-get_or cycle place 0 c.loop-place-test.true) c.line_behind-next.ensures
    (omega (arith, c.loop-place-test.true)) (c.leads_home.ensures c.if-not-leads_home.false)

pub returns : goal.returns
returns c = λ yes place a b lt here there. c.loop-place.invariant place a b (omega (arith, lt, c.loop-place-test.false))
    here there
