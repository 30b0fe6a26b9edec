use Rattle.std.proofs.Common.{◌≡◌, ◌⊎◌, ℕ, List, ◌∷◌, Contains, length}
use Rattle.sgt_certify_greedy.specs.Pairs.{Leads}
use Rattle.sgt_certify_logs.specs.Witness.{IsChain}
use Rattle.sgt_certify_greedy.specs.Sorted.{Among}
use Rattle.sgt_certify_greedy.proofs.sorting.cycle_in.Given as goal

abbrev pub invariant-back : goal.invariant-back
invariant-back l = record {
  here : Contains l.left l.here;
  walk : (rest : List ℕ) × (l.walk.items ≡ l.here ∷ rest) × IsChain (Among l.left (Leads l.pairs)) l.here rest;
  met : (t : ℕ) → Contains l.left t → Contains l.walk.items t ⊎ Contains l.unmet.items t;
}

abbrev pub decreases-back : goal.decreases-back
decreases-back l = length l.unmet.items
