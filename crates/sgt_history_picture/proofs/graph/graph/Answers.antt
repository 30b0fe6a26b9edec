use Rattle.std.proofs.lemmas.Result.{IfOk-weaker}
use Rattle.sgt_history_picture.proofs.Graphs.{graphed}
use Rattle.sgt_history_picture.proofs.graph.graph.Goals as goal

pub returns : goal.returns
returns c = IfOk-weaker c.into_text.result _ _
    (λ text whole. graphed c.args.steps.now whole.0 _ _ _ text.items c.in_ok-canvas.ensures c.in_ok-put.ensures
    c.in_ok-put_edges.ensures whole.1 whole.2) c.into_text.ensures.whole
