use Rattle.std.proofs.Common.{get_or}
use Rattle.std.proofs.lemmas.Option.{slice_get-get_or}
use Rattle.sgt_edges.specs.declared.edge.Edge.{Edge}
use Rattle.sgt_order.proofs.Covering.{listed_set}
use Rattle.sgt_order.proofs.rows.add_listed.Goals as goal

pub loop-number-preserved : goal.loop-number-preserved
loop-number-preserved c =
    let edges = c.args.edges.now in
    let number = get_or c.args.listed.now c.loop-number.number-index 0 in
    let at = slice_get-get_or c.args.listed.now c.loop-number.number-index 0 c.loop-number-test.true in
    let edge : Edge = get_or edges number c.index-edges-number.result in
    let is = slice_get-get_or edges number c.index-edges-number.result
    (c.requires c.loop-number.number-index number at) in
    listed_set edges c.args.listed.now c.loop-number.number-index number edge c.loop-number.row c.add.new.row at is
    c.add.ensures.kept c.add.ensures.set c.loop-number.invariant
