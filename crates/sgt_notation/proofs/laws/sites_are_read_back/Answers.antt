use Rattle.sgt_notation.proofs.OneSite.{site-back}
use Rattle.sgt_notation.proofs.laws.sites_are_read_back.Goals as goal

pub returns : goal.returns
returns c = site-back
