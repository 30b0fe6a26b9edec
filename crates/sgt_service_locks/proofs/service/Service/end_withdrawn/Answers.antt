use Rattle.std.proofs.Common.{◌≡◌, subst}
use Rattle.std.specs.Prelude.{vec_len}
use Rattle.sgt_certifier.specs.History.{withdraw}
use Rattle.sgt_certifier.specs.Kept.{Kept, Adds}
use Rattle.sgt_certifier.specs.declared.call.Call.TheVariants as call
use Rattle.sgt_service_locks.specs.Guarded.{decision_count}
use Rattle.sgt_service_locks.specs.Refused.{HandsOn}
use Rattle.sgt_service_locks.specs.Undecided.{declined}
use Rattle.sgt_service_locks.proofs.Noting.{takes_back}
use Rattle.sgt_service_locks.proofs.service.Service.end_withdrawn.Goals as goal

pub returns-clause-step : goal.returns-clause-step
returns-clause-step g c =
    let number = c.in-Ok-withdraw.number in
    let after = c.withdraw.new.self.certifier in
    let same = c.pledged.ensures.same in
    takes_back c.args.active.now (vec_len c.args.self.now.sites) number c.args.guarded.now.certifier after
    c.end_all-ended.new.guarded.certifier c.pledged.ensures.replays c.in-Ok.ensures.held.1
    (subst (λ (k : Kept). Adds k (call.Withdraw c.args.active.now.handle number) after) same
    c.in-Ok-withdraw.ensures.ok)
    (subst (λ (k : Kept). number ≡ decision_count k) same c.in-Ok-withdraw.ensures.number) c.in_default.ensures.history

pub returns-in-Err-withdraw-clause-why : goal.returns-in-Err-withdraw-clause-why
returns-in-Err-withdraw-clause-why g c =
    declined c.in-Err-withdraw.fault c.in-Ok.ensures.held c.in-Ok.ensures.sites
    (subst (λ (k : Kept). HandsOn k.state (withdraw c.args.active.now.handle) c.in-Err-withdraw.fault)
    c.pledged.ensures.same c.in-Err-withdraw.ensures.err.0)
