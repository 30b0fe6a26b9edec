use Rattle.std.proofs.Common.{ap}
use Rattle.sgt_draw.proofs.Gathered.{is-scene}
use Rattle.sgt_draw.proofs.scene.Scene.of.Goals as goal

pub returns : goal.returns
returns c =
    is-scene c.args.most c.args.decisions.now _ _ c.in_ok-scene.ensures c.in_ok-settle.ensures.committed
    (ap (λ v. v.items) c.in_ok-settle.ensures.refusals) (ap (λ v. v.items) c.in_ok-settle.ensures.withdrawn)
