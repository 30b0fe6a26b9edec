use Rattle.sgt_certify_stuck.proofs.Orders.{ends-follow, ends-onward, no-end-cycle}
use Rattle.sgt_certify_stuck.proofs.onward.ends_follow.Goals as goal

pub returns-clause-exact : goal.returns-clause-exact
returns-clause-exact c = (
  λ yes. ends-follow c.args.sites.now c.args.order.now c.in_ok-places.places c.in_ok-places.ensures
      (c.all_ends_lead_onward.ensures.0 yes),
  λ follow. c.all_ends_lead_onward.ensures.1
      (ends-onward c.args.sites.now c.args.order.now c.in_ok-places.places c.in_ok-places.ensures follow),
)

pub returns-clause-no_cycle : goal.returns-clause-no_cycle
returns-clause-no_cycle c =
    λ yes. no-end-cycle c.args.sites.now c.in_ok-places.places (c.all_ends_lead_onward.ensures.0 yes)
