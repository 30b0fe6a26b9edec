use Rattle.sgt_explain.proofs.answers.push_asked.Goals as goal

pub returns-in-Transaction-clause-found : goal.returns-in-Transaction-clause-found
returns-in-Transaction-clause-found c = rw c.in-Transaction.is c.push_transaction.ensures.found
