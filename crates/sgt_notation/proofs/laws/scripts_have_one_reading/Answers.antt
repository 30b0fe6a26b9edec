use Rattle.sgt_notation.proofs.OneScript.{script-one}
use Rattle.sgt_notation.proofs.laws.scripts_have_one_reading.Goals as goal

pub returns : goal.returns
returns c = script-one
