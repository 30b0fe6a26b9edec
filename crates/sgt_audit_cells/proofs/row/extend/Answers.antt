use Rattle.std.proofs.Common.{sym, subst, arith}
use Rattle.sgt_audit_cells.specs.private.Rows.{AreRows}
use Rattle.sgt_audit_cells.proofs.Rows.{rows-set}
use Rattle.sgt_audit_cells.proofs.row.extend.Goals as goal
use Rattle.sgt_audit_cells.proofs.row.extend.Goals.{then-at-len+else-follow, else-at-len}

pub returns : goal.returns
returns c =
    let nodes = c.args.nodes.now in
    let rows = c.args.rows.now in
    c.put.ensures nodes (elim c.if-at-len.branch [
      | then-at-len+else-follow w ↦ subst (λ v. AreRows nodes v.items) (sym w.rows-is)
          (rows-set nodes rows.items c.requires.rows c.args.number w.follow.new.self
          (omega (arith, w.if-at-len.true, c.len.ensures, rows.ok.0)) w.follow.ensures)
      | else-at-len w ↦ subst (λ v. AreRows nodes v.items) (sym w.rows-is) c.requires.rows
    ]) c.in_ok-found.ensures
