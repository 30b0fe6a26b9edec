use Rattle.std.proofs.Common.{◌<◌, ℕ, All}
use Rattle.sgt_certify_greedy.specs.Pairs.{HasPairsTo, IsPair}
use Rattle.sgt_certify_greedy.proofs.pairs.pairs_of.Given as goal

abbrev pub invariant-loop-site : goal.invariant-loop-site
invariant-loop-site l = record {
  only : All (IsPair l.rule l.sites) l.found.items;
  has : (s : ℕ) → s < l.site → (q : ℕ) → HasPairsTo l.rule l.sites l.found.items s q;
}
