use Rattle.sgt_history_faults.proofs.Bounds.{line-is}
use Rattle.sgt_history_evidence.proofs.lines.transaction_of.Goals as goal

pub returns-clause-is : goal.returns-clause-is
returns-clause-is c = line-is c.args.history.now.lines.items c.args.line c.line_at-end.result c.begin_of-begin.result
    c.args.history.now.operations.items
    c.as_slice.result.now c.line_at-end.ensures.is c.begin_of-begin.ensures c.as_slice.ensures.value
