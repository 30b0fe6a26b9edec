use Rattle.sgt_notation.proofs.OneSite.{site-no_lf}
use Rattle.sgt_notation.proofs.laws.sites_have_no_lf.Goals as goal

pub returns : goal.returns
returns c = site-no_lf
