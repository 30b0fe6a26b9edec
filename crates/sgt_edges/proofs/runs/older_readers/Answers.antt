use Rattle.std.proofs.Common.{ltb, rules}
use Rattle.std.proofs.lemmas.List.Sorted.{IsPartitionPoint-from_clause, IsPartitionedBy-ltb}
use Rattle.sgt_site.specs.declared.cell.Reader.{Reader}
use Rattle.sgt_site.proofs.Inserts.{nondecreasing}
use Rattle.sgt_edges.proofs.runs.older_readers.Goals as goal

pub returns-clause-point : goal.returns-clause-point
returns-clause-point c =
    IsPartitionPoint-from_clause (λ (r : Reader). ltb r.version c.args.version) c.args.readers.now
    c.partition_point.result c.partition_point.ensures.partitioned
    (IsPartitionedBy-ltb (λ (r : Reader). r.version) c.args.readers.now c.args.version
    (nondecreasing (λ (r : Reader). r.version) _ c.requires)) (λ a r q k. search rules)
