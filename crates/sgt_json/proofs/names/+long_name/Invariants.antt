use Rattle.std.proofs.Common.{length}
use Rattle.sgt_json.proofs.names.+long_name.Given as goal

abbrev pub decreases-long_name : goal.decreases-long_name
decreases-long_name l = length l.table.now
