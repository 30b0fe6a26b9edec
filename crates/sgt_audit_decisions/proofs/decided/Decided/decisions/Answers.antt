use Rattle.sgt_audit_decisions.specs.private.Table.{placed_at}
use Rattle.sgt_audit_decisions.proofs.Tables.{table-once}
use Rattle.sgt_audit_decisions.proofs.decided.Decided.decisions.Goals as goal

pub returns-clause-once : goal.returns-clause-once
returns-clause-once c = let v = c.self.view_is in
    table-once c.args.self.now.decisions (placed_at c.self.inside.table) (rw v at c.self.invariant)
