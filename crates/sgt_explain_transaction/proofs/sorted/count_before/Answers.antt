use Rattle.std.proofs.Common.{rules}
use Rattle.std.specs.Ordering.{is_lt}
use Rattle.std.proofs.lemmas.List.Sorted.{IsPartitionPoint-from_clause}
use Rattle.sgt_explain_transaction.specs.declared.dealings.Own.{Own}
use Rattle.sgt_explain_transaction.specs.Found.{item_cmp}
use Rattle.sgt_explain_transaction.proofs.Beside.{parted-before}
use Rattle.sgt_explain_transaction.proofs.sorted.count_before.Goals as goal

pub returns-clause-point : goal.returns-clause-point
returns-clause-point c =
    IsPartitionPoint-from_clause (λ (o : Own). is_lt (item_cmp o c.args.other.now)) c.args.sorted.now
    c.partition_point.result c.partition_point.ensures.partitioned
    (parted-before c.args.sorted.now c.args.other.now c.requires) (λ a r g called. (search rules, search rules))
