use Rattle.std.proofs.Common.{length}
use Rattle.sgt_certify_search.proofs.finding.feed.Given as goal

abbrev pub decreases-lines : goal.decreases-lines
decreases-lines l = length l.ahead
