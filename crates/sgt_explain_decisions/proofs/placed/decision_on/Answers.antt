use Rattle.std.proofs.Common.{sym, subst}
use Rattle.sgt_explain_decisions.specs.Placed.{IsFirstOn}
use Rattle.sgt_explain_decisions.proofs.Placing.{none-decided, decided-there}
use Rattle.sgt_names.proofs.Elements.{none-weaker, some-weaker}
use Rattle.sgt_explain_decisions.proofs.placed.decision_on.Goals as goal

pub returns-in-None-clause-none : goal.returns-in-None-clause-none
returns-in-None-clause-none c = λ placed. none-decided c.args.decisions.now c.args.placed.now c.args.tx placed
    (c.in-None.ensures.none placed.rising)

pub returns-in-Some-clause-none : goal.returns-in-Some-clause-none
returns-in-Some-clause-none c = λ placed.
    let there =
    decided-there c.args.decisions.now c.args.placed.now c.args.tx c.in-Some.number placed c.in-Some.ensures.some in
    none-weaker c.numbered_on.result _ _ (λ other. absurd (other there.0 there.1 there.2)) c.numbered_on.ensures.none

pub returns-in-Some-clause-first : goal.returns-in-Some-clause-first
returns-in-Some-clause-first c = λ placed.
    some-weaker c.numbered_on.result _ _ (λ d same. subst (IsFirstOn c.args.decisions.now c.args.tx) (sym same)
    (c.in-Some.ensures.first c.args.decisions.now placed)) c.numbered_on.ensures.same
