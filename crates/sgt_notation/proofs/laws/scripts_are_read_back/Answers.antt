use Rattle.sgt_notation.proofs.OneScript.{script-back}
use Rattle.sgt_notation.proofs.laws.scripts_are_read_back.Goals as goal

pub returns : goal.returns
returns c = script-back
