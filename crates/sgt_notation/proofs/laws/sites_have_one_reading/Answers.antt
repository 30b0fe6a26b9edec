use Rattle.sgt_notation.proofs.OneSite.{site-one}
use Rattle.sgt_notation.proofs.laws.sites_have_one_reading.Goals as goal

pub returns : goal.returns
returns c = site-one
