use Rattle.std.proofs.Common.{ℕ, take, All, Contains}
use Rattle.sgt_certify_greedy.specs.Pairs.{Leads}
use Rattle.sgt_certify_greedy.proofs.sorting.source.Given as goal

abbrev pub invariant-loop-tx : goal.invariant-loop-tx
invariant-loop-tx l = All (λ t. (a : ℕ) × Contains l.left a × Leads l.pairs a t) (take l.tx-index l.left)
