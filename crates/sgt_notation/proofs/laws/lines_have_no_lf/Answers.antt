use Rattle.sgt_notation.proofs.Short.{line-no_lf}
use Rattle.sgt_notation.proofs.laws.lines_have_no_lf.Goals as goal

pub returns : goal.returns
returns c = line-no_lf
