use Rattle.std.proofs.Common.{◌≡◌, map}
use Rattle.sgt_audit_chain.specs.Chain.{final_of}
use Rattle.sgt_audit_chain.proofs.going_on.values_left.Given as goal

abbrev pub invariant-loop-log : goal.invariant-loop-log
invariant-loop-log l = l.left.items ≡ map final_of l.yielded
