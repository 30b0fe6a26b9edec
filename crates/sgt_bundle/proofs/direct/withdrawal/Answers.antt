use Rattle.std.proofs.Common.{rules}
use Rattle.sgt_bundle.proofs.Fronts.{withdraw-front}
use Rattle.sgt_bundle.proofs.direct.withdrawal.Goals as goal

pub returns : goal.returns
returns c = search (rules, withdraw-front)
