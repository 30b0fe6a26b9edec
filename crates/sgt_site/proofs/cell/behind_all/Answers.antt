use Rattle.std.proofs.Common.{leb, rules}
use Rattle.std.proofs.lemmas.List.Sorted.{IsPartitionPoint-from_clause, IsPartitionedBy-leb}
use Rattle.sgt_site.specs.declared.cell.Reader.{Reader}
use Rattle.sgt_site.proofs.Inserts.{nondecreasing}
use Rattle.sgt_site.proofs.cell.behind_all.Goals as goal

pub returns-clause-point : goal.returns-clause-point
returns-clause-point c =
    IsPartitionPoint-from_clause (λ (r : Reader). leb r.version c.args.version) c.args.readers.now
    c.partition_point.result c.partition_point.ensures.partitioned
    (IsPartitionedBy-leb (λ (r : Reader). r.version) c.args.readers.now c.args.version
    (nondecreasing (λ (r : Reader). r.version) _ c.requires)) (λ a r q k. search rules)
