use Rattle.sgt_history.proofs.Forward.{goes_forward}
use Rattle.sgt_history.proofs.Complete.{serves}
use Rattle.sgt_history.proofs.laws.orders_serve_exactly_where_conflicts_go_forward.Goals as goal

pub returns : goal.returns
returns c = λ h order positive faultless ordered. (
  λ s kind from to x v w conflict. goes_forward h order s kind from to x v w conflict,
  λ forward. serves h positive faultless order ordered forward,
)
