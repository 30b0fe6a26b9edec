use Rattle.sgt_check_order.proofs.Exact.{answer-exact}
use Rattle.sgt_check_order.proofs.laws.a_yes_is_told_exactly_of_what_serves.Goals as goal

pub returns : goal.returns
returns c = λ wanted order bytes text outcome a. answer-exact wanted order bytes text outcome a
