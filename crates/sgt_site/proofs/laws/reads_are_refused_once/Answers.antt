use Rattle.sgt_site.proofs.Reasons.{read-once}
use Rattle.sgt_site.proofs.laws.reads_are_refused_once.Goals as goal

pub returns : goal.returns
returns c s tx x f g a b = read-once s tx x f g a b
