use Rattle.std.proofs.Common.{sym, ◌∙◌}
use Rattle.std.proofs.lemmas.Bool.{true≢false}
use Rattle.std.proofs.lemmas.Result.{IfOk-weaker}
use Rattle.sgt_certify_stuck.proofs.Orders.{commits-in, conflicts-follow, conflicts-onward, no-conflict-cycle, stand-apart}
use Rattle.sgt_certify_stuck.proofs.onward.conflicts_follow.Goals as goal

pub returns-then-not-commits_stand-clause-exact : goal.returns-then-not-commits_stand-clause-exact
returns-then-not-commits_stand-clause-exact c = (
  λ no. absurd (true≢false (sym no)),
  λ follow. absurd (true≢false (sym (c.commits_stand.ensures.1
      (commits-in c.args.sites.now c.args.order.now c.in_ok-places.places c.in_ok-places.ensures follow))
      ∙ c.if-not-commits_stand.true)),
)

pub returns-clause-exact : goal.returns-clause-exact
returns-clause-exact c =
    let sites = c.args.sites.now in
    let order = c.args.order.now in
    IfOk-weaker c.all_conflicts_lead_onward.result _ _
    (λ follow h. (
      λ yes. conflicts-follow sites order c.in_ok-places.places c.in_ok-places.ensures
          (c.commits_stand.ensures.0 c.if-not-commits_stand.false) (h.0 yes),
      λ follows. h.1 (conflicts-onward sites order c.in_ok-places.places c.in_ok-places.ensures follows),
    ))
    c.all_conflicts_lead_onward.ensures

pub returns-clause-no_cycle : goal.returns-clause-no_cycle
returns-clause-no_cycle c =
    IfOk-weaker c.all_conflicts_lead_onward.result _ _
    (λ follow h yes. no-conflict-cycle c.args.sites.now c.in_ok-places.places
    (stand-apart c.args.order.now c.in_ok-places.places c.in_ok-places.ensures)
    (c.commits_stand.ensures.0 c.if-not-commits_stand.false) (h.0 yes))
    c.all_conflicts_lead_onward.ensures
