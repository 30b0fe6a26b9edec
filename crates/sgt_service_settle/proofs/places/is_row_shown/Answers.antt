use Rattle.std.proofs.Common.{subst, arith}
use Rattle.std.specs.Prelude.{All}
use Rattle.std.proofs.lemmas.List.{take_all}
use Rattle.sgt_names.proofs.Lists.{All-next, element_at}
use Rattle.sgt_service_settle.specs.private.Places.{IsShown}
use Rattle.sgt_service_settle.proofs.places.is_row_shown.Goals as goal

pub loop-link-preserved : goal.loop-link-preserved
loop-link-preserved c =
    let links = c.args.links.now in
    let n = c.loop-link.link-index in
    let here = element_at links n c.link-item.result c.loop-link-test.true c.link-item.is in
    All-next (IsShown c.args.log.now) links n c.link-item.result here (c.is_shown.ensures c.if-not-is_shown.false)
    c.loop-link.invariant

pub returns : goal.returns
returns c =
    λ yes. subst (All (IsShown c.args.log.now))
    (take_all c.loop-link.link-index c.args.links.now (omega (arith, c.loop-link-test.false))) c.loop-link.invariant
