use Rattle.std.proofs.Common.{◌≡◌, [], All, Ok, IfOk, length, refl, sym, ap, ◌∙◌, subst, arith}
use Rattle.std.specs.List.{AllZip}
use Rattle.std.proofs.lemmas.List.{length-map}
use Rattle.std.proofs.lemmas.List.Sorted.{All-permutation}
use Rattle.crossbeam_channel.specs.Claims.{view}
use Rattle.crossbeam_channel.specs.Ends.{receives_on}
use Rattle.sgt_workers.specs.Answers.{jobs_of, IsAnswer, IsReport}
use Rattle.sgt_workers.specs.Queue.{newcomer, AreAll, IsFilled, IsEnded}
use Rattle.sgt_workers.specs.declared.queue.Hold.{Hold}
use Rattle.sgt_workers.proofs.Lists.{zip_length, zip_then, zip_ok, zip_map, all_ok, all_flat}
use Rattle.sgt_workers.proofs.Told.{job_there}
use Rattle.sgt_workers.proofs.Runs.{reports_share, shared_in_order, none_share}
use Rattle.sgt_workers.proofs.workers.pool.Goals as goal

pub returns-then-is_empty-clause-shares : goal.returns-then-is_empty-clause-shares
returns-then-is_empty-clause-shares g c =
    rw (c.no_jobs.ensures.dones, c.no_jobs.ensures.same)
    (none_share (g.W.Work.does c.args.work.now) c.args.scripts.now c.args.states.items)

pub run_workers-requires-clause-begun : goal.run_workers-requires-clause-begun
run_workers-requires-clause-begun g c κs within =
    let n = length c.args.scripts.now in
    rw c.in_ok-sender.ensures.ends (λ k d h.
    let its = c.in_ok-kits.ensures.cut k d h in
    let knows =
    subst (λ (v : Hold). IsFilled n v × (v.taken ≡ []) × (v.lent ≡ 1))
    (sym (its.1 ∙ ap newcomer c.fill.ensures.sent)) ((refl, omega (arith, c.requires)), refl, refl) in
    (its.0, knows.0, knows.1, knows.2))

pub run_workers-requires-clause-stops : goal.run_workers-requires-clause-stops
run_workers-requires-clause-stops g c κs within =
    λ k d h. ap (λ (v : Hold). v.stops) ((c.in_ok-kits.ensures.cut k d h).1 ∙ ap newcomer c.fill.ensures.sent)
    ∙ c.len-workers.ensures ∙ c.args.states.ok.0 ∙ zip_length _ _ _ c.in_ok-kits.ensures.kits
    ∙ sym c.in_ok-kits.kits.ok.0

pub collect-requires-clause-reports : goal.collect-requires-clause-reports
collect-requires-clause-reports g c =
    rw (sym c.in_ok-sender.ensures.ends)
    (all_ok _ (λ r. IsEnded (receives_on c.in_ok-sender.receiver) r.pass (jobs_of r.dones.items))
    c.in_ok-reports.reports.items
    (subst (λ l. All
    (λ e. IfOk e (λ r. IsEnded (receives_on c.in_ok-sender.receiver) r.pass (jobs_of r.dones.items))) l)
    c.in_ok-reports.ensures.reports c.in_ok-ends.ensures.taken))

pub collect-requires-clause-out : goal.collect-requires-clause-out
collect-requires-clause-out g c =
    let cut = ap (λ (h : Hold). h.out) c.in_ok-kits.ensures.lender in
    let none = ap (λ (h : Hold). h.out) c.fill.ensures.sent in
    let kits = zip_length _ _ _ c.in_ok-ends.ensures.keeps in
    let ends = ap length c.in_ok-reports.ensures.reports ∙ length-map c.in_ok-reports.reports.items Ok in
    omega (arith, cut, none, kits, ends, c.in_ok-kits.kits.ok.0, c.in_ok-reports.reports.ok.0)

pub collect-requires-clause-some : goal.collect-requires-clause-some
collect-requires-clause-some g c =
    let states = zip_length _ _ _ c.in_ok-kits.ensures.kits in
    let kits = zip_length _ _ _ c.in_ok-ends.ensures.keeps in
    let ends = ap length c.in_ok-reports.ensures.reports ∙ length-map c.in_ok-reports.reports.items Ok in
    omega (arith, states, kits, ends, c.requires, c.args.states.ok.0, c.in_ok-reports.reports.ok.0)

pub returns-clause-jobs : goal.returns-clause-jobs
returns-clause-jobs g c =
    let P = IsAnswer (g.W.Work.answers c.args.work.now) c.args.scripts.now in
    let each : All P c.in_ok-dones.dones.items =
    rw c.in_ok-dones.ensures.dones (all_flat P (λ w. w.dones.items) c.in_ok-reports.reports.items
    (all_ok _ (λ r. All P r.dones.items) c.in_ok-reports.reports.items
    (subst (λ l. All (λ e. IfOk e (λ r. All P r.dones.items)) l) c.in_ok-reports.ensures.reports
    c.in_ok-ends.ensures.answers))) in
    let sent = c.in_ok-dones.ensures.sent.1 ∙ (ap (λ (h : Hold). h.sent) c.in_ok-kits.ensures.lender
    ∙ ap (λ (h : Hold). h.sent) c.fill.ensures.sent) in
    let all =
    subst (λ k. AreAll k (jobs_of c.in_ok-dones.dones.items)) sent
    (subst (λ l. AreAll (view c.collect.new.pass).sent l) c.in_ok-dones.ensures.taken c.learn_all.ensures.all) in
    c.in_order.ensures.jobs (length c.args.scripts.now)
    (λ k d h. job_there (g.W.Work.answers c.args.work.now) c.args.scripts.now _ (each k d h)) all

pub returns-clause-answers : goal.returns-clause-answers
returns-clause-answers g c =
    let P = IsAnswer (g.W.Work.answers c.args.work.now) c.args.scripts.now in
    let each : All P c.in_ok-dones.dones.items =
    rw c.in_ok-dones.ensures.dones (all_flat P (λ w. w.dones.items) c.in_ok-reports.reports.items
    (all_ok _ (λ r. All P r.dones.items) c.in_ok-reports.reports.items
    (subst (λ l. All (λ e. IfOk e (λ r. All P r.dones.items)) l) c.in_ok-reports.ensures.reports
    c.in_ok-ends.ensures.answers))) in
    All-permutation P _ c.in_order.result.items c.in_order.ensures.same each

pub returns-clause-shares : goal.returns-clause-shares
returns-clause-shares g c =
    let D = g.W.Work.does c.args.work.now in
    let R = IsReport D c.args.scripts.now in
    let reports = c.in_ok-reports.reports.items in
    let both = zip_then _ _ (λ s e. IfOk e (R s)) c.args.states.items c.in_ok-kits.kits.items c.in_ok-ends.ends.items
    c.in_ok-kits.ensures.kits c.in_ok-ends.ensures.reports (λ s k e a b. subst (λ x. IfOk e (R x)) a b) in
    let left =
    zip_ok _ R c.args.states.items reports
    (subst (λ l. AllZip (λ s e. IfOk e (R s)) c.args.states.items l) c.in_ok-reports.ensures.reports both) in
    rw c.in_ok-dones.ensures.states
    (shared_in_order D c.args.scripts.now c.args.states.items _ _ c.in_order.result.items
    (reports_share D c.args.scripts.now c.args.states.items reports left)
    (rw (sym c.in_ok-dones.ensures.dones) c.in_order.ensures.same))

pub returns-clause-states : goal.returns-clause-states
returns-clause-states g c =
    let K = g.W.Work.keeps in
    let both = zip_then _ _ (λ s e. IfOk e (λ r. K s r.state)) c.args.states.items c.in_ok-kits.kits.items
    c.in_ok-ends.ends.items c.in_ok-kits.ensures.kits c.in_ok-ends.ensures.keeps
    (λ s k e a b. subst (λ x. IfOk e (λ r. K x r.state)) a b) in
    let left = zip_ok _ (λ s r. K s r.state) c.args.states.items c.in_ok-reports.reports.items
    (subst (λ l. AllZip (λ s e. IfOk e (λ r. K s r.state)) c.args.states.items l) c.in_ok-reports.ensures.reports
    both) in
    rw c.in_ok-dones.ensures.states (zip_map K (λ w. w.state) c.args.states.items c.in_ok-reports.reports.items left)
