use Rattle.std.proofs.Common.{◌≢◌, take, All}
use Rattle.sgt_certify_greedy.specs.declared.walks.Reached.{Reached}
use Rattle.sgt_certify_greedy.proofs.walks.reach_of.Given as goal

abbrev pub invariant-loop-place : goal.invariant-loop-place
invariant-loop-place l = All (λ (r : Reached). r.tx ≢ l.tx) (take l.place l.reached)
