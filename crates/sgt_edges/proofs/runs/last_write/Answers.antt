use Rattle.sgt_edges.proofs.Slices.{last-slice}
use Rattle.sgt_edges.proofs.runs.last_write.Goals as goal

pub returns-clause-last : goal.returns-clause-last
returns-clause-last c = λ s x are w.
    rw c.saturating_sub.ensures (last-slice s x c.args.writers.now are.0 c.args.written c.requires are.1 w)
