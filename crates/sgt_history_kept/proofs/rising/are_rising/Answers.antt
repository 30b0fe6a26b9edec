use Rattle.std.proofs.Common.{arith}
use Rattle.sgt_history_kept.proofs.Risings.{rise-next, rise-one}
use Rattle.sgt_history_kept.proofs.rising.are_rising.Goals as goal

pub loop-at-init : goal.loop-at-init
loop-at-init c = rise-one c.args.numbers.now

pub loop-at-preserved : goal.loop-at-preserved
loop-at-preserved c =
    rise-next c.args.numbers.now c.loop-at.at c.loop-at.auto.at c.loop-at.invariant (omega arith)

pub returns : goal.returns
returns c = λ yes i j le lt. c.loop-at.invariant i j le (omega (arith, lt, c.loop-at-test.false))
