use Rattle.sgt_history.proofs.Forward.{goes_forward}
use Rattle.sgt_history.proofs.laws.conflicts_go_forward.Goals as goal

pub returns : goal.returns
returns g c = λ h order kind from to x v w s conflict. goes_forward h order s kind from to x v w conflict
