use Rattle.sgt_edges.proofs.runs.changes_before.Goals as goal

pub returns-in-Put-clause-before : goal.returns-in-Put-clause-before
returns-in-Put-clause-before c = λ s x are w. rw c.in-Put.is (c.before_write.ensures.before s x are w)

pub returns-in-Add-clause-before : goal.returns-in-Add-clause-before
returns-in-Add-clause-before c = λ s x are w. rw c.in-Add.is (c.last_write.ensures.last s x are.wrote w)
