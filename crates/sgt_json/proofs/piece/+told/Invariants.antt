use Rattle.std.proofs.Common.{length}
use Rattle.sgt_json.proofs.piece.+told.Given as goal

abbrev pub decreases-told : goal.decreases-told
decreases-told l = length l.form.now
