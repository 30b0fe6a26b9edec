use Rattle.std.proofs.lemmas.Result.{on_ok_weaker}
use Rattle.sgt_history_picture.proofs.Growing.{grows-on}
use Rattle.sgt_history_picture.proofs.picture.put_others.Goals as goal

pub returns-in_ok-put_sample-in-History : goal.returns-in_ok-put_sample-in-History
returns-in_ok-put_sample-in-History c =
    on_ok_weaker c.put_sample-in-History.result (λ last. grows-on _ _ _ c.in_ok-put_sample-in-History.ensures last)
    c.put_sample-in-History.ensures
