use Rattle.sgt_notation.proofs.OneNext.{next-one}
use Rattle.sgt_notation.proofs.laws.what_comes_next_is_one.Goals as goal

pub returns : goal.returns
returns c = next-one
