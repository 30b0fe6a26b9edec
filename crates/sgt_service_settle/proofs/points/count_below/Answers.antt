use Rattle.std.proofs.Common.{rules, nat_lt}
use Rattle.std.proofs.lemmas.List.Sorted.{IsPartitionPoint-from_clause, IsPartitionedBy-ltb}
use Rattle.sgt_service_settle.specs.declared.acts.Act.{Act as AnAct}
use Rattle.sgt_service_settle.specs.private.Acts.{actor}
use Rattle.sgt_service_settle.proofs.points.count_below.Goals as goal

pub returns-clause-point : goal.returns-clause-point
returns-clause-point c =
    IsPartitionPoint-from_clause (λ (a : AnAct). nat_lt (actor a) c.args.number) c.args.acts.now
    c.partition_point.result c.partition_point.ensures.partitioned
    (IsPartitionedBy-ltb actor c.args.acts.now c.args.number c.requires) (λ a r g called. (search rules, search rules))
