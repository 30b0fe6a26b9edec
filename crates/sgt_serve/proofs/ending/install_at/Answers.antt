use Rattle.std.proofs.Common.{sym, subst, List, arith}
use Rattle.std.proofs.lemmas.List.FromFn.{map-range_with_len_more}
use Rattle.sgt_notation.specs.declared.event.Event.{Event}
use Rattle.sgt_notation.specs.declared.event.Event.TheVariants.{Install}
use Rattle.sgt_serve.proofs.Ends.{Asked, asked_more, asked_none}
use Rattle.sgt_serve.proofs.ending.install_at.Goals as goal

pub loop-number-init : goal.loop-number-init
loop-number-init c = asked_none c.args.core.now

pub loop-number-preserved : goal.loop-number-preserved
loop-number-preserved c =
    subst (λ (es : List Event). Asked c.args.core.now es c.step-installed.new.self)
    (sym (map-range_with_len_more (Install c.args.tx) 0 c.loop-number.number c.in-Ok.site
    (omega (arith, c.in-Ok.ensures.1))))
    (asked_more c.args.core.now c.loop-number.core c.step-installed.new.self _ _ _ c.loop-number.invariant
    c.step-installed.ensures)
