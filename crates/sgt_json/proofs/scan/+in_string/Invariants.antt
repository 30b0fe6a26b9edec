use Rattle.std.proofs.Common.{length}
use Rattle.sgt_json.proofs.scan.+in_string.Given as goal

abbrev pub decreases-in_string : goal.decreases-in_string
decreases-in_string l = length l.text.now
