use Rattle.std.proofs.Common.{take, All, Contains}
use Rattle.sgt_certify_greedy.specs.declared.pairs.Pair.{Pair}
use Rattle.sgt_certify_greedy.specs.Walks.{IsReached}
use Rattle.sgt_certify_greedy.proofs.walks.next_pair.Given as goal

abbrev pub invariant-loop-pair : goal.invariant-loop-pair
invariant-loop-pair l = All (λ (pair : Pair). Contains l.wanted pair.to → IsReached l.reached pair.from
    → ⊥) (take l.pair-index l.pairs)
