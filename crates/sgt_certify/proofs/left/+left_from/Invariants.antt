use Rattle.std.proofs.Common.{length}
use Rattle.sgt_certify.proofs.left.+left_from.Given as goal

abbrev pub decreases-left_from : goal.decreases-left_from
decreases-left_from l = length l.logs.now
