use Rattle.sgt_edges.proofs.Slices.{reads-present}
use Rattle.sgt_edges.proofs.runs.reads_before.Goals as goal

pub returns-in-Put-clause-before : goal.returns-in-Put-clause-before
returns-in-Put-clause-before c = λ s x are r.
    rw c.in-Put.is (reads-present s x are.site c.in-Put.field-0 _ _
    are.read (rw are.wrote.1 at c.readers_since.ensures.since) r)

pub returns-in-Add-clause-before : goal.returns-in-Add-clause-before
returns-in-Add-clause-before c = λ s x are r.
    rw c.in-Add.is (c.last_readers.ensures.last s x c.args.item.now.writers.now are c.requires.written r)
