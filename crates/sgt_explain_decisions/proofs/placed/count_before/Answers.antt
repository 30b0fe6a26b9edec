use Rattle.std.proofs.Common.{rules, subst}
use Rattle.std.proofs.Math.Dec.{ltb}
use Rattle.std.proofs.lemmas.List.Sorted.{IsPartitionPoint-from_clause, IsPartitionedBy-ltb}
use Rattle.sgt_explain_decisions.specs.Placed.{StandBefore}
use Rattle.sgt_explain_decisions.proofs.Placing.{stand-before}
use Rattle.sgt_explain_decisions.proofs.placed.count_before.Goals as goal

pub returns : goal.returns
returns c = λ rising.
    let t = c.number-least.result in
    let parted = IsPartitionedBy-ltb (λ p. p.tx) _ t rising in
    let point = IsPartitionPoint-from_clause (λ p. ltb p.tx t) _ _ c.partition_point.ensures.partitioned parted
    (λ a r q k. search rules) in
    subst (λ k. StandBefore c.args.placed.now k c.partition_point.result) c.number-least.ensures.is
    (stand-before c.args.placed.now t c.partition_point.result point)
