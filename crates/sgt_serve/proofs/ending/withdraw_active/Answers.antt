use Rattle.std.proofs.Common.{sym, subst, List, arith}
use Rattle.std.proofs.lemmas.List.FromFn.{map-range_with_len_more}
use Rattle.sgt_notation.specs.declared.event.Event.{Event}
use Rattle.sgt_notation.specs.declared.event.Event.TheVariants.{Withdraw}
use Rattle.sgt_serve.proofs.Ends.{Asked, asked_more, asked_none}
use Rattle.sgt_serve.proofs.ending.withdraw_active.Goals as goal

pub loop-number-init : goal.loop-number-init
loop-number-init c = asked_none c.args.core.now

pub loop-number-preserved : goal.loop-number-preserved
loop-number-preserved c =
    subst (λ (es : List Event). Asked c.args.core.now es c.step-withdrawn.new.self)
    (sym (map-range_with_len_more Withdraw 1 c.loop-number.number c.in-Ok.tx (omega (arith, c.in-Ok.ensures.1))))
    (asked_more c.args.core.now c.loop-number.core c.step-withdrawn.new.self _ _ _ c.loop-number.invariant
    c.step-withdrawn.ensures)
