use Rattle.std.proofs.Common.{rules}
use Rattle.sgt_bundle.proofs.Fronts.{commit-front}
use Rattle.sgt_bundle.proofs.direct.commit.Goals as goal

pub returns : goal.returns
returns c = search (rules, commit-front)
