use Rattle.std.proofs.lemmas.Result.{on_ok_weaker}
use Rattle.sgt_history_picture.proofs.Growing.{grows-on}
use Rattle.sgt_history_picture.proofs.picture.put_kinds.Goals as goal

pub returns : goal.returns
returns c = on_ok_weaker c.put_others.result (λ last.
    grows-on _ _ _ c.in_ok-put_sample.ensures (grows-on _ _ _ c.in_ok-put_sample-2.ensures
    (grows-on _ _ _ c.in_ok-put_sample-3.ensures last))) c.put_others.ensures
