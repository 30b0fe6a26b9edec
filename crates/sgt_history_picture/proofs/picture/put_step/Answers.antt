use Rattle.std.proofs.lemmas.Result.{on_ok_weaker}
use Rattle.sgt_history_picture.specs.Told.{step_of}
use Rattle.sgt_history_picture.proofs.Growing.{put}
use Rattle.sgt_history_picture.proofs.picture.put_step.Goals as goal

pub returns : goal.returns
returns c = on_ok_weaker c.put_words.result (λ words.
    put (step_of c.args.step.now) _ _ _ _ _ _ _ _ _ c.in_ok-put_begin.ensures c.in_ok-put_name.ensures
    c.in_ok-put_frame.ensures c.in_ok-put_box.ensures c.in_ok-put_begin-2.ensures c.in_ok-put_title.ensures
    c.in_ok-put_arrow.ensures words) c.put_words.ensures
