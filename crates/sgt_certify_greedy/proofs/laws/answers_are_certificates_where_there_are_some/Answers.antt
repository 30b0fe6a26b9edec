use Rattle.sgt_certify_greedy.proofs.Answered.{certifying}
use Rattle.sgt_certify_greedy.proofs.laws.answers_are_certificates_where_there_are_some.Goals as goal

pub returns : goal.returns
returns c = certifying
