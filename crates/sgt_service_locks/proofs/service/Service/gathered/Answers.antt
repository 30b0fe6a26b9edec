use Rattle.std.proofs.Common.{◌≡◌, inl, inr, subst}
use Rattle.std.specs.Prelude.{vec_len}
use Rattle.sgt_certifier.specs.Certifier.{State}
use Rattle.sgt_certifier.specs.History.{tx_under}
use Rattle.sgt_service_locks.specs.Undecided.{IsUngathered, at_first, unexpected, beyond, ungathered}
use Rattle.sgt_service_locks.proofs.service.Service.gathered.Goals as goal

pub returns-in-Err-clause-refused : goal.returns-in-Err-clause-refused
returns-in-Err-clause-refused g c = elim c.in-Err.ensures.refused [
  | inl r ↦ at_first c.in-Err.fault r
  | inr r ↦ unexpected c.in-Err.fault r.0 r.1
]

pub returns-then-not-has_sites-clause-refused : goal.returns-then-not-has_sites-clause-refused
returns-then-not-has_sites-clause-refused g c =
    let there = c.has_sites.ensures.beyond c.if-not-has_sites.true in
    let ok = c.in_default.ensures.ok in
    let named =
    subst (λ (s : State). tx_under s c.args.active.now.handle ≡ c.args.active.now.tx) c.expect.ensures.state.0
    ok.1 in
    beyond there.0 (ok.0, named) c.in_default.ensures.allowed there.1 there.2

pub returns-in-Err-gather_all-clause-refused : goal.returns-in-Err-gather_all-clause-refused
returns-in-Err-gather_all-clause-refused g c =
    let ok = c.in_default.ensures.ok in
    let named =
    subst (λ (s : State). tx_under s c.args.active.now.handle ≡ c.args.active.now.tx) c.expect.ensures.state.0
    ok.1 in
    ungathered c.in-Err-gather_all.fault
    (record {
      held = (ok.0, named);
      allowed = c.in_default.ensures.allowed;
      there =
          c.has_sites.ensures.all c.if-not-has_sites.false;
    })
    (subst (λ h. IsUngathered (vec_len c.args.self.now.sites) h c.args.active.now c.in-Err-gather_all.fault)
    c.expect.ensures.state.1 c.in-Err-gather_all.ensures.refused)
