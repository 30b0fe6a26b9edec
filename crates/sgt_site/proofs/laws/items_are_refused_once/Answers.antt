use Rattle.sgt_site.proofs.Reasons.{items-once}
use Rattle.sgt_site.proofs.laws.items_are_refused_once.Goals as goal

pub returns : goal.returns
returns c items f g a b = items-once items f g a b
