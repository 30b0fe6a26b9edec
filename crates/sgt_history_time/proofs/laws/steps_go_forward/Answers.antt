use Rattle.sgt_history_time.proofs.Forward.{goes-forward}
use Rattle.sgt_history_time.proofs.laws.steps_go_forward.Goals as goal

pub returns : goal.returns
returns g c = λ h times sessions timed sessioned order s from to step. goes-forward h times sessions timed sessioned
    order s from to step
