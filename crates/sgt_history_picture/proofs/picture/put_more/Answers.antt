use Rattle.std.proofs.Common.{codes}
use Rattle.std.proofs.lemmas.Result.{on_ok_weaker}
use Rattle.sgt_history_picture.proofs.Growing.{grown, more-shown}
use Rattle.sgt_history_picture.proofs.Quiet.{quiet-name}
use Rattle.sgt_history_picture.proofs.picture.put_more.Goals as goal

pub returns : goal.returns
returns c =
    on_ok_weaker c.put.result (λ is. (
      grown _ _ _ is (simp quiet-name),
      more-shown c.args.more _ _ (codes "\n<text x=\"60\" y=\"") _ (codes "\"") is,
    )) c.put.ensures
