use Rattle.sgt_history.proofs.Renaming.{serializable-on, serializable-back}
use Rattle.sgt_history.proofs.laws.names_do_not_matter.Goals as goal

pub returns : goal.returns
returns g c = λ f names h apart. (serializable-on f names h apart, serializable-back f names h apart)
