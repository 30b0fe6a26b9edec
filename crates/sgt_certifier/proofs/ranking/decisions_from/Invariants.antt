use Rattle.std.proofs.Common.{◌≡◌, ◌<◌, All, length, map}
use Rattle.sgt_certifier.specs.Certifier.{ruled}
use Rattle.sgt_certifier.specs.Judged.{ruling_from}
use Rattle.sgt_certifier.specs.Kept.{with_rank_in}
use Rattle.sgt_certifier.proofs.ranking.decisions_from.Given as goal

abbrev pub invariant-loop-ruling : goal.invariant-loop-ruling
invariant-loop-ruling l = record {
  decisions : l.decisions.items ≡ map (λ r. with_rank_in l.ranks (ruling_from r)) l.yielded;
  below : All (λ r. ruled (ruling_from r) < length l.ranks) l.ruling-iterator.rest.items;
}
