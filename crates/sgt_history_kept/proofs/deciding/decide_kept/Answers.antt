use Rattle.std.proofs.lemmas.Result.{IfOk-weaker}
use Rattle.sgt_history_kept.proofs.Deciders.{exactly}
use Rattle.sgt_history_kept.proofs.deciding.decide_kept.Goals as goal

pub returns-clause-exact : goal.returns-clause-exact
returns-clause-exact c =
    IfOk-weaker c.decided.result _ _ (λ kept is h from. exactly h c.args.lines c.args.edges.now c.args.asked.now from
    kept (is h from)) c.decided.ensures
