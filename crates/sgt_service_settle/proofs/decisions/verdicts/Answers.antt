use Rattle.std.proofs.Common.{◌∙◌, sym}
use Rattle.sgt_service_settle.proofs.Tabling.{tabled_verdict, tabled_on, tabled_are}
use Rattle.sgt_service_settle.proofs.decisions.verdicts.Goals as goal
use Rattle.sgt_service_settle.proofs.decisions.verdicts.Goals.{in-Some+else-is_err, in_default}
use Rattle.sgt_names.proofs.Lists.{element_at}

pub loop-call-preserved : goal.loop-call-preserved
loop-call-preserved c =
    let history = c.args.history.now in
    let n = c.loop-call.call-index in
    let one = c.call-item.result in
    let here = element_at history n one c.loop-call-test.true c.call-item.is in
    rw c.windows_after.ensures (
    elim c.match-verdict_of.branch [
      | in-Some+else-is_err w ↦
          rw w.verdicts-is
          (rw w.push_reserved.ensures.items
          (rw w.reserve.ensures.items
          (tabled_verdict history n c.loop-call.begun c.loop-call.before c.loop-call.verdicts.items one
          w.in-Some.verdict c.loop-call.invariant here (sym c.verdict_of.ensures ∙ w.in-Some.is))))
      | in_default w ↦
          rw w.verdicts-is (tabled_on history n c.loop-call.begun c.loop-call.before c.loop-call.verdicts.items one
          c.loop-call.invariant here (sym c.verdict_of.ensures ∙ w.in_default.is))
    ])

pub returns-then-is_err : goal.returns-then-is_err
returns-then-is_err c =
    rw c.reserve.ensures.items
    (tabled_are c.args.history.now c.loop-call.call-index c.loop-call.begun c.loop-call.before
    c.loop-call.verdicts.items c.loop-call.invariant)

pub returns : goal.returns
returns c =
    tabled_are c.args.history.now c.loop-call.call-index c.loop-call.begun c.loop-call.before
    c.loop-call.verdicts.items c.loop-call.invariant
