use Rattle.std.proofs.Common.{◌≡◌, ◌∙◌, true, false, nat_lt, subst}
use Rattle.std.specs.List.Sorted.{IsPartitionPoint}
use Rattle.sgt_service_settle.specs.declared.acts.Act.{Act as AnAct}
use Rattle.sgt_service_settle.specs.private.Acts.{actor}
use Rattle.sgt_service_settle.proofs.points.start_of.Goals as goal

pub returns-clause-point : goal.returns-clause-point
returns-clause-point c =
    let number : c.from.result ≡ c.args.tx = c.from.ensures ∙ c.number.ensures.is in
    subst (λ t. IsPartitionPoint (λ (a : AnAct). nat_lt (actor a) t ≡ true)
    (λ (a : AnAct). nat_lt (actor a) t ≡ false) c.args.acts.now c.count_below.result) number
    c.count_below.ensures.point
