use Rattle.sgt_names.proofs.laws.increments_conflict_with_others.Goals as goal

pub returns-clause-reads : goal.returns-clause-reads
returns-clause-reads c x e f is writes reads = ((writes, reads), (reads, writes))

pub returns-clause-writes : goal.returns-clause-writes
returns-clause-writes c x e f is writes other not = ((writes, other, λ h g. not g), (other, writes, λ h g. not h))
