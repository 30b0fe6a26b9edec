use Rattle.std.proofs.Common.{sym, arith, ◌∙◌, ◌++◌, ◌∷◌, [], ap, subst}
use Rattle.sgt_order.specs.declared.row.Row.{Row}
use Rattle.sgt_order.specs.private.Rows.{RowsCover}
use Rattle.sgt_order.proofs.Covering.{rows_push, rows_put}
use Rattle.sgt_order.proofs.rows.put_row.Goals as goal

pub loop-empty-preserved : goal.loop-empty-preserved
loop-empty-preserved c over was =
    let row : Row = record { words = c.new.result } in
    subst (λ rs. RowsCover rs over) (sym (c.push_reserved.ensures.items
    ∙ ap (λ z. z ++ row ∷ []) c.reserve.ensures.items))
    (rows_push c.loop-empty.rows.items row over c.new.ensures.items (c.loop-empty.invariant over was))

pub returns-then-at-len : goal.returns-then-at-len
returns-then-at-len c over was covered =
    rows_put c.loop-empty.rows.items c.args.at c.args.row over (omega arith) covered (c.loop-empty.invariant over was)
