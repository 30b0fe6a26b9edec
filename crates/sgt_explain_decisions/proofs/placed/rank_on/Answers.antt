use Rattle.std.proofs.Common.{sym}
use Rattle.sgt_explain_decisions.proofs.Placing.{other-uncommitted}
use Rattle.sgt_explain_decisions.proofs.placed.rank_on.Goals as goal

pub returns-in-None-clause-none : goal.returns-in-None-clause-none
returns-in-None-clause-none c = λ placed once.
    other-uncommitted c.args.decisions.now c.args.tx c.in_ok-number.number c.in_ok-number.decision.now once
    c.in_ok-number.ensures.some (sym c.in-None.ensures)
