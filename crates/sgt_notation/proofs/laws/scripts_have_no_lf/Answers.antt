use Rattle.sgt_notation.proofs.OneScript.{script-no_lf}
use Rattle.sgt_notation.proofs.laws.scripts_have_no_lf.Goals as goal

pub returns : goal.returns
returns c = script-no_lf
