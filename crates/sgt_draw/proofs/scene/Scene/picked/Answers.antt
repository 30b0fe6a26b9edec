use Rattle.sgt_draw.proofs.Neighbours.{own-all, own-next}
use Rattle.sgt_draw.proofs.scene.Scene.picked.Goals as goal

pub loop-place-preserved : goal.loop-place-preserved
loop-place-preserved c = record {
  own = own-next c.args.places.now c.loop-place.place-index c.args.committed.now _ _ c.loop-place-test.true
      c.loop-place.invariant.own c.in_ok-add_at.ensures.own c.in_ok-add_at.ensures.kept;
  others = c.in_ok-add_at.ensures.others c.loop-place.invariant.others;
}

pub returns-clause-own : goal.returns-clause-own
returns-clause-own c =
    own-all c.args.places.now c.loop-place.place-index c.args.committed.now _ c.loop-place-test.false
    c.loop-place.invariant.own
