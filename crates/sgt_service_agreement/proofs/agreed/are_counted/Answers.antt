use Rattle.std.proofs.Common.{arith, eqb-true}
use Rattle.std.proofs.lemmas.Option.{slice_get-get_or}
use Rattle.sgt_service_agreement.proofs.Counted.{met-all, met-next, met-none}
use Rattle.sgt_service_agreement.proofs.agreed.are_counted.Goals as goal

pub loop-place-init : goal.loop-place-init
loop-place-init c = met-none c.args.counts.now c.args.items.now c.args.versions.now c.requires.counts c.requires.items

pub loop-place-preserved : goal.loop-place-preserved
loop-place-preserved c =
    let at = slice_get-get_or c.args.items.now c.loop-place.place c.index-items-place.result c.loop-place-test.true in
    let is = slice_get-get_or c.args.versions.now c.loop-place.place 0
    (omega (arith, c.loop-place-test.true, c.requires.as_many)) in
    met-next c.args.counts.now c.args.items.now c.args.versions.now c.requires.counts c.requires.items _ _ _ _ at is
    c.loop-place.invariant _
    c.in-Some.ensures

pub returns : goal.returns
returns c = λ yes.
    let all = eqb-true _ _ yes in
    met-all c.args.counts.now c.args.items.now c.args.versions.now c.requires.counts c.requires.items _ _
    c.loop-place.invariant
    (omega (arith, all)) (omega (arith, c.loop-place-test.false))
