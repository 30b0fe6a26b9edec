use Rattle.std.proofs.Common.{length}
use Rattle.sgt_certify_faults.proofs.Noted.{IsAskedTo}
use Rattle.sgt_certify_faults.proofs.asked.askings_of.Given as goal

abbrev pub invariant-lines : goal.invariant-lines
invariant-lines l = IsAskedTo l.second l.bytes l.askings l.rest

abbrev pub decreases-lines : goal.decreases-lines
decreases-lines l = length l.rest
