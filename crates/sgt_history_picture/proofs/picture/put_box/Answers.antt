use Rattle.std.proofs.lemmas.Result.{on_ok_weaker}
use Rattle.sgt_history_picture.proofs.Growing.{joined}
use Rattle.sgt_history_picture.proofs.picture.put_box.Goals as goal

pub returns : goal.returns
returns c = on_ok_weaker c.put-2.result
    (λ is. joined _ _ _ _ _ _ _ c.in_ok-put.ensures c.in_ok-put_shown.ensures is) c.put-2.ensures
