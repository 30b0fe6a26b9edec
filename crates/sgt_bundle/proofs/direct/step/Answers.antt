use Rattle.std.proofs.Common.{rules}
use Rattle.sgt_bundle.proofs.Fronts.{step-front}
use Rattle.sgt_bundle.proofs.direct.step.Goals as goal

pub returns : goal.returns
returns c = search (rules, step-front)
