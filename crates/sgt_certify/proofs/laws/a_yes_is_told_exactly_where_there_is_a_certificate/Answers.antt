use Rattle.sgt_certify.proofs.Decided.{yes-exact}
use Rattle.sgt_certify.proofs.laws.a_yes_is_told_exactly_where_there_is_a_certificate.Goals as goal

pub returns : goal.returns
returns c = yes-exact
