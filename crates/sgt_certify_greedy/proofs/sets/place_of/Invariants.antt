use Rattle.std.proofs.Common.{◌≢◌, take, All}
use Rattle.sgt_certify_greedy.proofs.sets.place_of.Given as goal

abbrev pub invariant-loop-n : goal.invariant-loop-n
invariant-loop-n l = All (λ t. t ≢ l.tx) (take l.n l.txs)
