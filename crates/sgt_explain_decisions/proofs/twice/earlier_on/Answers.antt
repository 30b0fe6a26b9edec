use Rattle.std.proofs.Common.{arith}
use Rattle.sgt_explain_decisions.proofs.Doubling.{undecided-front, undecided-all}
use Rattle.sgt_explain_decisions.proofs.twice.earlier_on.Goals as goal

pub returns-in_default-clause-none : goal.returns-in_default-clause-none
returns-in_default-clause-none c =
    λ ds placed. undecided-all ds c.args.tx c.args.number (c.in_default.ensures.undecided ds placed)

pub returns-clause-none : goal.returns-clause-none
returns-clause-none c = λ ds placed.
    let first = c.in-Some.ensures.first ds placed in
    undecided-front ds c.args.tx c.in-Some.first c.args.number (omega arith) first.before
