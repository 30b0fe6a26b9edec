use Rattle.std.proofs.Common.{rules, nat_lt}
use Rattle.std.proofs.lemmas.List.Sorted.{IsPartitionPoint-from_clause, IsPartitionedBy-ltb}
use Rattle.sgt_serial.specs.declared.entries.SiteEntry.{SiteEntry}
use Rattle.sgt_serial.specs.private.Operations.{owner}
use Rattle.sgt_serial.proofs.sorted.count_below.Goals as goal

pub returns-clause-point : goal.returns-clause-point
returns-clause-point c =
    IsPartitionPoint-from_clause (λ (e : SiteEntry). nat_lt (owner e) c.args.number) c.args.entries.now
    c.partition_point.result c.partition_point.ensures.partitioned
    (IsPartitionedBy-ltb owner c.args.entries.now c.args.number c.requires)
    (λ a r g called. (search rules, search rules))
