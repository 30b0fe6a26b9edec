use Rattle.sgt_names.proofs.Elements.{front-longer, front-tried}
use Rattle.sgt_explain.proofs.engine.write_both.Goals as goal

pub returns-in-Err-clause-err : goal.returns-in-Err-clause-err
returns-in-Err-clause-err g c = front-longer _ _ _ _ c.in-Err.ensures.err

pub returns-in-Ok-clause-err : goal.returns-in-Ok-clause-err
returns-in-Ok-clause-err g c = front-tried _ _ _ _ _ _ c.in-Ok.ensures.ok c.write_all-in-Ok.ensures.err
