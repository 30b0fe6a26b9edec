use Rattle.std.proofs.Common.{sym, ◌∙◌}
use Rattle.std.proofs.lemmas.Bool.{true≢false, eq-eqb}
use Rattle.sgt_explain_decisions.proofs.walks.flaw_of_step.Goals as goal

pub returns-clause-some : goal.returns-clause-some
returns-clause-some c =
    λ placed. c.flaw_of_stop.ensures.some c.args.refused.now.tx placed (λ e. true≢false (sym (eq-eqb _ _ e)
    ∙ sym c.eq.ensures ∙ c.if-eq.false))
