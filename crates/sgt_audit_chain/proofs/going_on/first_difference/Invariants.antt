use Rattle.std.proofs.Common.{◌≡◌, take}
use Rattle.sgt_audit_chain.proofs.going_on.first_difference.Given as goal

abbrev pub invariant-loop-n : goal.invariant-loop-n
invariant-loop-n l = take l.n l.items ≡ take l.n l.left
