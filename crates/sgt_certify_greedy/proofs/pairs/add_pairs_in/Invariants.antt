use Rattle.std.proofs.Common.{◌<◌, ℕ, All}
use Rattle.sgt_certify_greedy.specs.Pairs.{HasPairsTo, IsPair}
use Rattle.sgt_certify_greedy.proofs.Pairing.{Keeps}
use Rattle.sgt_certify_greedy.proofs.pairs.add_pairs_in.Given as goal

abbrev pub invariant-loop-second : goal.invariant-loop-second
invariant-loop-second l = record {
  kept : Keeps l.initial.found.items l.found.items;
  only : All (IsPair l.rule l.sites) l.initial.found.items → All (IsPair l.rule l.sites) l.found.items;
  has : (q : ℕ) → q < l.second → HasPairsTo l.rule l.sites l.found.items l.site q;
}
