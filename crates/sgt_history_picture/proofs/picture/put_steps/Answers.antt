use Rattle.sgt_history_picture.proofs.Growing.{none-put, put-all, put-next}
use Rattle.sgt_history_picture.proofs.picture.put_steps.Goals as goal

pub loop-place-init : goal.loop-place-init
loop-place-init c = none-put _

pub loop-place-preserved : goal.loop-place-preserved
loop-place-preserved c =
    put-next c.args.steps.now c.loop-place.place _ _ _ _ c.loop-place-test.true c.loop-place.invariant
    c.in_ok-put_step.ensures

pub returns : goal.returns
returns c = put-all c.args.steps.now c.loop-place.place _ _ c.loop-place-test.false c.loop-place.invariant
