use Rattle.sgt_check.proofs.Exact.{answer-exact}
use Rattle.sgt_check.proofs.laws.a_yes_is_told_exactly_of_what_is_serializable.Goals as goal

pub returns : goal.returns
returns c = λ options bytes text outcome a. answer-exact options bytes text outcome a
