use Rattle.std.proofs.lemmas.Result.{on_ok_weaker}
use Rattle.sgt_history_picture.specs.Short.{shown}
use Rattle.sgt_history_picture.specs.Told.{kind_text}
use Rattle.sgt_history_picture.proofs.Growing.{joined-kind}
use Rattle.sgt_history_picture.proofs.picture.put_words.Goals as goal

pub returns : goal.returns
returns c = on_ok_weaker c.put-2.result
    (λ is. joined-kind _ _ _ _ c.kind_word.result.now (kind_text c.args.step.now.kind)
    (shown 40 64 c.args.step.now.about.now) _ c.kind_word.ensures
    c.in_ok-put.ensures c.in_ok-put_shown.ensures is) c.put-2.ensures
