use Rattle.sgt_explain_decisions.proofs.Placing.{if-none}
use Rattle.sgt_explain_decisions.proofs.Ranking.{rise-ranked}
use Rattle.sgt_explain_decisions.proofs.order.shown_against.Goals as goal

pub returns-in_err-item-clause-none : goal.returns-in_err-item-clause-none
returns-in_err-item-clause-none c = λ placed once its.
    if-none c.from_residual-in_err-item.result _
    (rise-ranked c.args.decisions.now c.args.one.now c.in_ok-first.first c.args.second.now c.in_ok-first.ensures.same
    once c.in_ok-first.ensures.rank its c.in_err-item.ensures.none)
