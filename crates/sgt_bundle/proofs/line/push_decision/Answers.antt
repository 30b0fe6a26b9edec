use Rattle.std.proofs.Common.{ap, ◌∙◌, ◌++◌}
use Rattle.std.proofs.lemmas.Result.{on_ok_weaker}
use Rattle.sgt_bundle.proofs.Compact.{commit-pieces, refuse-pieces, withdraw-pieces}
use Rattle.sgt_bundle.proofs.line.push_decision.Goals as goal

pub returns-in-Commit-clause-text : goal.returns-in-Commit-clause-text
returns-in-Commit-clause-text c =
    on_ok_weaker c.push_commit.result (λ e. e
    ∙ ap (λ t. c.args.out.now.items ++ t)
    (commit-pieces c.args.decision.now c.in-Commit.tx _ c.in-Commit.rank c.in-Commit.is c.number.ensures.is))
    c.push_commit.ensures

pub returns-in-Refuse-clause-text : goal.returns-in-Refuse-clause-text
returns-in-Refuse-clause-text c =
    on_ok_weaker c.push_refuse.result
    (λ e. e ∙ ap (λ t. c.args.out.now.items ++ t)
    (refuse-pieces c.args.decision.now c.in-Refuse.tx _ c.in-Refuse.walk _ c.in-Refuse.is
    c.number-in-Refuse.ensures.is c.as_slice.ensures))
    c.push_refuse.ensures.text

pub returns-in-Withdraw-clause-text : goal.returns-in-Withdraw-clause-text
returns-in-Withdraw-clause-text c =
    on_ok_weaker c.push_withdraw.result (λ e. e
    ∙ ap (λ t. c.args.out.now.items ++ t) (withdraw-pieces c.args.decision.now c.in-Withdraw.tx _ c.in-Withdraw.is
    c.number-in-Withdraw.ensures.is)) c.push_withdraw.ensures
