use Rattle.sgt_names.proofs.Increments.{added-as_one}
use Rattle.sgt_names.proofs.laws.additions_sum_up.Goals as goal

pub returns : goal.returns
returns c = added-as_one
