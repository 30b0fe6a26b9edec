use Rattle.std.proofs.Common.{sym, arith, get_or}
use Rattle.std.proofs.lemmas.Option.{slice_get-get_or}
use Rattle.sgt_arena.specs.declared.handle.Handle.{Handle}
use Rattle.sgt_order.proofs.Told.{told_next, told_all}
use Rattle.sgt_order.proofs.placing.renumber.Goals as goal

pub loop-place-preserved : goal.loop-place-preserved
loop-place-preserved c =
    let h : Handle = get_or c.args.order.now c.loop-place.place (record { index = 0; generation = 0 }) in
    let at = slice_get-get_or c.args.order.now c.loop-place.place (record { index = 0; generation = 0 })
    c.loop-place-test.true in
    told_next c.args.first c.loop-place.place c.args.order.now c.args.nodes.now c.loop-place.nodes h
    c.in-Some.node.now c.loop-place.invariant c.loop-place.auto.place at (sym c.in-Some.ensures.value)
    c.requires.once

pub returns : goal.returns
returns c = told_all _ _ _ _ _ c.loop-place.invariant (omega arith)
