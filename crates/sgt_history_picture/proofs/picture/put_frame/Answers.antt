use Rattle.std.proofs.lemmas.Result.{on_ok_weaker}
use Rattle.sgt_history_picture.proofs.Growing.{grown}
use Rattle.sgt_history_picture.proofs.Quiet.{quiet-name}
use Rattle.sgt_history_picture.proofs.picture.put_frame.Goals as goal

pub returns : goal.returns
returns c = on_ok_weaker c.put.result (λ is. grown _ _ _ is (simp quiet-name)) c.put.ensures
