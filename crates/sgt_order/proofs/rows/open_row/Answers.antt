use Rattle.std.proofs.Common.{sym, ◌≡◌, Some, subst}
use Rattle.std.specs.Prelude.{slice_get}
use Rattle.sgt_order.specs.private.Search.{IsListed}
use Rattle.sgt_order.proofs.Covering.{numbers_within, covers_listed}
use Rattle.sgt_order.proofs.rows.open_row.Goals as goal

pub row_of-requires : goal.row_of-requires
row_of-requires c j n at =
    numbers_within c.args.nodes.now c.args.edges.now c.args.from c.in-Some.node.now c.requires.lists
    (sym c.in-Some.ensures) j n (subst (λ ls. slice_get ls j ≡ Some n) c.as_slice.ensures at)

pub returns : goal.returns
returns c =
    c.put_row.ensures c.args.edges.now c.requires.rows
    (λ wide. covers_listed c.args.nodes.now c.args.edges.now c.args.from c.in-Some.node.now _ c.requires.lists
    c.requires.window (sym c.in-Some.ensures)
    (λ e l. c.in_ok-row.ensures wide e (subst (λ ls. IsListed c.args.edges.now ls e) (sym c.as_slice.ensures) l)))
