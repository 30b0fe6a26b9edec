use Rattle.sgt_audit_decisions.proofs.table.dense.Goals as goal

pub returns-then-fill_dense-clause-table : goal.returns-then-fill_dense-clause-table
returns-then-fill_dense-clause-table c = c.fill_dense.ensures.table c.if-fill_dense.true
