use Rattle.sgt_core_model.proofs.Alike.{runs_alike}
use Rattle.sgt_core_model.proofs.laws.states_are_determined.Goals as goal

pub returns : goal.returns
returns c items events replies new other p q = runs_alike items events replies new other p q
