use Rattle.sgt_notation.proofs.Short.{line-short}
use Rattle.sgt_notation.proofs.laws.lines_are_short.Goals as goal

pub returns : goal.returns
returns c = line-short
