use Rattle.std.proofs.Common.{refl}
use Rattle.sgt_explain_logs.proofs.engine.push_asked.Goals as goal

pub returns-in_default : goal.returns-in_default
returns-in_default c = rw c.in_default.is refl

pub returns : goal.returns
returns c = rw c.in-Some.is c.push_dealings.ensures.any
