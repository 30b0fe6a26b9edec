use Rattle.std.proofs.Common.{length}
use Rattle.sgt_json.proofs.scan.+blanks.Given as goal

abbrev pub decreases-blanks : goal.decreases-blanks
decreases-blanks l = length l.text.now
