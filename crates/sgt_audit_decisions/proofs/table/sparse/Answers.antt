use Rattle.sgt_audit_decisions.proofs.table.sparse.Goals as goal

pub returns-then-branch-clause-table : goal.returns-then-branch-clause-table
returns-then-branch-clause-table c = c.in_ok-fill_sparse.ensures.table c.if-branch.true
