use Rattle.std.proofs.Common.{arith, subst, take_all}
use Rattle.std.proofs.lemmas.List.{length-take-le}
use Rattle.sgt_names.proofs.Lists.{element_at}
use Rattle.sgt_bundle.specs.declared.certificate.Decision.{Decision}
use Rattle.std.proofs.Common.{List}
use Rattle.sgt_draw.specs.Gathering.{HoldsAll}
use Rattle.sgt_draw.proofs.Gathered.{holds-next, holds-none}
use Rattle.sgt_draw.proofs.scene.Scene.gathered.Goals as goal

pub loop-number-init : goal.loop-number-init
loop-number-init c =
    holds-none c.args.most c.new-scene.result c.new-scene.ensures.0 c.new-scene.ensures.1 c.new-scene.ensures.2

pub loop-number-preserved : goal.loop-number-preserved
loop-number-preserved c =
    let decisions = c.args.decisions.now in
    let n = c.loop-number.number in
    let d = c.index-decisions-number.result in
    holds-next c.args.most n decisions d _ _ (element_at decisions n d (omega arith) c.index-decisions-number.is)
    (length-take-le n decisions (omega arith)) c.loop-number.invariant c.in_ok-add.ensures

pub returns : goal.returns
returns c =
    let decisions = c.args.decisions.now in
    subst (λ (ds : List Decision). HoldsAll c.args.most ds c.loop-number.scene)
    (take_all c.loop-number.number decisions (omega (arith, c.loop-number-test.false))) c.loop-number.invariant
