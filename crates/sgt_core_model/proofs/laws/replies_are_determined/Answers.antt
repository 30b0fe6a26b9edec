use Rattle.sgt_core_model.proofs.Determined.{one_reply}
use Rattle.sgt_core_model.proofs.laws.replies_are_determined.Goals as goal

pub returns : goal.returns
returns c state event r q new other a b not_r not_q = one_reply state event r q new other a b not_r not_q
