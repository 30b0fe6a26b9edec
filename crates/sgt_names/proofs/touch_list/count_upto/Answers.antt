use Rattle.std.proofs.Common.{rules, leb}
use Rattle.std.proofs.lemmas.List.Sorted.{IsPartitionPoint-from_clause, IsPartitionedBy-leb}
use Rattle.sgt_names.specs.declared.draft.Touch.{Touch}
use Rattle.sgt_names.proofs.AtSite.{nondecreasing}
use Rattle.sgt_names.proofs.AtSite.{sites-rise}
use Rattle.sgt_names.proofs.touch_list.count_upto.Goals as goal

pub returns-clause-point : goal.returns-clause-point
returns-clause-point c =
    IsPartitionPoint-from_clause (λ (t : Touch). leb t.site c.args.site) c.args.touched.now c.partition_point.result
    c.partition_point.ensures.partitioned
    (IsPartitionedBy-leb (λ (t : Touch). t.site) c.args.touched.now c.args.site
    (nondecreasing (λ (t : Touch). t.site) _ (sites-rise _ c.requires)))
    (λ a r g called. (search rules, search rules))
