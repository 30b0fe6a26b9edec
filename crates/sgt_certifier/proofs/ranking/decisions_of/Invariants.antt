use Rattle.std.proofs.Common.{◌≡◌, map, take}
use Rattle.sgt_certifier.specs.Judged.{ruling_from}
use Rattle.sgt_certifier.specs.Kept.{with_rank_in}
use Rattle.sgt_certifier.proofs.ranking.decisions_of.Given as goal

abbrev pub invariant-loop-ruling : goal.invariant-loop-ruling
invariant-loop-ruling l =
    l.decisions.items ≡ map (λ r. with_rank_in l.ranks (ruling_from r)) (take l.ruling-index l.rulings)
