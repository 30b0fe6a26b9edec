use Rattle.sgt_site.proofs.Reasons.{pledge-once}
use Rattle.sgt_site.proofs.laws.pledges_are_refused_once.Goals as goal

pub returns : goal.returns
returns c s tx touched f g a b = pledge-once s tx touched f g a b
