use Rattle.sgt_names.proofs.Increments.{increments-swap}
use Rattle.sgt_names.proofs.laws.increments_commute.Goals as goal

pub returns : goal.returns
returns c = increments-swap
