use Rattle.std.proofs.Common.{length}
use Rattle.sgt_certify_faults.proofs.watch.Watch.suspects.Given as goal

abbrev pub decreases-lines : goal.decreases-lines
decreases-lines l = length l.rest
