use Rattle.std.proofs.lemmas.Result.{IfOk-weaker}
use Rattle.sgt_draw.proofs.Pictured.{picture-of}
use Rattle.sgt_draw.proofs.task.picture.Goals as goal

pub returns : goal.returns
returns c =
    IfOk-weaker c.into_text.result _ _
    (λ text is. picture-of c.args.wanted.is_dot c.args.wanted.tx c.args.bundle.now.certificate.decisions _ _ text.items
    c.in_ok-canvas.ensures c.in_ok-put.ensures is) c.into_text.ensures
