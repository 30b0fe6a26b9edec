use Rattle.std.proofs.Common.{refl}
use Rattle.sgt_explain.proofs.Fronts.{begun}
use Rattle.sgt_explain.proofs.front.Watch.new.Goals as goal

pub returns : goal.returns
returns c = begun _ c.new.ensures.stands refl refl refl
