use Rattle.std.proofs.Common.{refl, arith, get_or}
use Rattle.std.proofs.lemmas.Option.{slice_get-get_or}
use Rattle.sgt_order.specs.declared.row.Row.{Row}
use Rattle.sgt_order.proofs.Covering.{rows_change, rows_past}
use Rattle.sgt_order.proofs.rows.add_edge.Goals as goal

pub returns-then-from-rows : goal.returns-then-from-rows
returns-then-from-rows c over was =
    let rows = c.args.rows.now in
    let from = c.args.edge.now.from.index in
    let old : Row = get_or rows from c.index-rows-from.result in
    rows_change rows from old c.add.new.row over c.args.edge.now
    (slice_get-get_or rows from c.index-rows-from.result (omega arith)) refl c.add.ensures.kept c.add.ensures.set
    was

pub returns-else-from-rows : goal.returns-else-from-rows
returns-else-from-rows c over was = rows_past c.args.rows.now over c.args.edge.now (omega arith) was
