use Rattle.std.proofs.Common.{length}
use Rattle.sgt_json.proofs.scan.+digits.Given as goal

abbrev pub decreases-digits : goal.decreases-digits
decreases-digits l = length l.text.now
