use Rattle.std.proofs.Common.{◌∙◌, ◌<◌, sym, arith}
use Rattle.std.proofs.lemmas.Bool.{true≢false}
use Rattle.sgt_service_settle.proofs.Ticketing.{walk_hit, walk_decided, walk_on, walk_ends}
use Rattle.sgt_service_settle.proofs.decisions.is_good_in.Goals as goal
use Rattle.sgt_service_settle.proofs.decisions.is_good_in.Goals.{then-is_decision+else-number-ticket, else-is_decision}
use Rattle.sgt_names.proofs.Lists.{element_at}

pub returns-then-number-ticket : goal.returns-then-number-ticket
returns-then-number-ticket c =
    let here = element_at c.args.history.now c.loop-call.call-index c.call-item.result c.loop-call-test.true
    c.call-item.is in
    let k = walk_hit c.args.history.now c.loop-call.call-index c.loop-call.begun c.loop-call.before c.loop-call.number
    c.args.ticket c.call-item.result c.loop-call.invariant here (sym c.is_decision.ensures
    ∙ c.if-is_decision.true) c.if-number-ticket.true in
    (λ told. k.0 (c.tells.ensures.0 told), λ good. c.tells.ensures.1 (k.1 good))

pub loop-call-preserved : goal.loop-call-preserved
loop-call-preserved c =
    let history = c.args.history.now in
    let n = c.loop-call.call-index in
    let one = c.call-item.result in
    let here = element_at history n one c.loop-call-test.true c.call-item.is in
    rw c.windows_after.ensures (
    elim c.if-is_decision.branch [
      | then-is_decision+else-number-ticket w ↦
          let early : c.loop-call.number < c.args.ticket.number =
          omega (arith, w.if-number-ticket.false, c.loop-call.invariant.early) in
          rw w.number-is (walk_decided history n c.loop-call.begun c.loop-call.before c.loop-call.number
          c.args.ticket.number one c.loop-call.invariant here (sym c.is_decision.ensures
          ∙ w.if-is_decision.true) early)
      | else-is_decision w ↦
          rw w.number-is (walk_on history n c.loop-call.begun c.loop-call.before c.loop-call.number
          c.args.ticket.number one c.loop-call.invariant here (sym c.is_decision.ensures ∙ w.if-is_decision.false))
    ])

pub returns : goal.returns
returns c = (
  λ told. absurd (true≢false (sym told)),
  λ good. absurd (walk_ends c.args.history.now c.loop-call.call-index c.loop-call.begun c.loop-call.before
      c.loop-call.number c.args.ticket c.loop-call.invariant (omega (arith, c.loop-call-test.false)) good),
)
