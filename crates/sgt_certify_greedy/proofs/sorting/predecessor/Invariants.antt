use Rattle.std.proofs.Common.{◌≡◌, take, All, Contains}
use Rattle.sgt_certify_greedy.specs.declared.pairs.Pair.{Pair}
use Rattle.sgt_certify_greedy.proofs.sorting.predecessor.Given as goal

abbrev pub invariant-loop-pair : goal.invariant-loop-pair
invariant-loop-pair l = All (λ (pair : Pair). pair.to ≡ l.tx → Contains l.left pair.from
    → ⊥) (take l.pair-index l.pairs)
