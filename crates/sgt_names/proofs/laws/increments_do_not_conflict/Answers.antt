use Rattle.sgt_names.proofs.Increments.{increments-no_clash}
use Rattle.sgt_names.proofs.laws.increments_do_not_conflict.Goals as goal

pub returns : goal.returns
returns c = increments-no_clash
