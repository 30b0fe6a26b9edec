use Rattle.sgt_history_time.proofs.Forward.{goes-forward, serves-keeping}
use Rattle.sgt_history_time.proofs.laws.orders_keep_exactly_where_steps_go_forward.Goals as goal

pub returns : goal.returns
returns g c = λ h times sessions order positive faultless ordered timed sessioned. (
  λ s from to step. goes-forward h times sessions timed sessioned order s from to step,
  λ forward. serves-keeping h times sessions positive faultless order ordered forward,
)
