use Rattle.sgt_graph.proofs.Nearby.{nearest-more}
use Rattle.sgt_graph.proofs.nearest.nearest.Goals as goal

pub loop-target-preserved : goal.loop-target-preserved
loop-target-preserved c =
    nearest-more c.args.distances.now c.args.targets.now c.loop-target.target-index c.loop-target.best c.nearer.result
    0 c.loop-target.invariant c.loop-target-test.true
    c.nearer.ensures.one c.nearer.ensures.here c.nearer.ensures.old
