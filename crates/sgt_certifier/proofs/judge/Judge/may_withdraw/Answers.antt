use Rattle.std.proofs.Common.{◌≡◌, None, subst}
use Rattle.sgt_certifier.specs.Certifier.{State}
use Rattle.sgt_certifier.proofs.Judging.{withdraw_allowed}
use Rattle.sgt_certifier.proofs.judge.Judge.may_withdraw.Goals as goal

pub returns-in-None-clause-withdraw : goal.returns-in-None-clause-withdraw
returns-in-None-clause-withdraw c =
    withdraw_allowed c.args.self.now c.args.handle (c.is_active.ensures.0 c.if-not-is_active.false)
    (subst (λ (v : State). v.step ≡ None) c.self.view_is c.in-None.is)
