use Rattle.std.proofs.Common.{Contains}
use Rattle.sgt_names.proofs.Lists.{All-whole}
use Rattle.sgt_draw.proofs.Neighbours.{once-next}
use Rattle.sgt_draw.proofs.around.each_once.Goals as goal

pub loop-end-preserved : goal.loop-end-preserved
loop-end-preserved c =
    once-next c.args.ends.now c.loop-end.end-index _ _ c.loop-end-test.true c.loop-end.invariant
    c.in_ok-add_once.ensures.added c.in_ok-add_once.ensures.kept

pub returns : goal.returns
returns c = All-whole (Contains c.loop-end.places.items) c.args.ends.now c.loop-end.end-index c.loop-end-test.false c.loop-end.invariant
