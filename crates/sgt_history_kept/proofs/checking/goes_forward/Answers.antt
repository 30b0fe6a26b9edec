use Rattle.std.proofs.Common.{ℕ, Bool, List, Option, subst, All}
use Rattle.std.specs.Prelude.{IsTrue, ◌↔◌}
use Rattle.std.proofs.lemmas.Result.{IfOk-weaker}
use Rattle.sgt_history.specs.Transaction.{Transaction}
use Rattle.sgt_history_time.specs.declared.times.Times.{Times}
use Rattle.sgt_history_kept.specs.Decided.{GoesForward, IsKeptFrom}
use Rattle.sgt_history_time.specs.Kept.{KeepsRealTime, KeepsSessions}
use Rattle.sgt_history_kept.specs.Placed.{LeadsOn}
use Rattle.sgt_history_kept.proofs.Deciders.{checked-forward}
use Rattle.sgt_history_kept.proofs.checking.goes_forward.Goals as goal

pub returns : goal.returns
returns c =
    let order = c.args.order.now in
    let a = c.args.asked.now in
    let n = c.args.lines in
    let edges = c.args.edges.now in
    let places = c.in-Some.places.items in
    let are = rw c.in-Some.is at c.in_ok-places.ensures in
    let onward = subst (λ (ps : List (Option ℕ)). All (LeadsOn ps) edges) c.as_slice.ensures.value
    (c.all_lead_on.ensures c.if-not-all_lead_on.false) in
    let in_time = subst (λ (ts : List (Option Times)). KeepsRealTime order ts) c.as_slice-2.ensures.value
    (c.keeps_real_time.ensures.0 c.if-not-keeps_real_time.false) in
    IfOk-weaker c.keeps_sessions.result (λ (keeps : Bool). IsTrue keeps ↔ KeepsSessions order c.as_slice-3.result.now)
    (λ (yes : Bool). IsTrue yes → (h : List (Transaction ℕ ℕ)) → IsKeptFrom h n edges a → GoesForward h a order)
    (λ keeps exact yes h from. checked-forward h n edges a from order places are onward in_time
    (subst (λ (ss : List (Option ℕ)). KeepsSessions order ss) c.as_slice-3.ensures.value (exact.0 yes)))
    c.keeps_sessions.ensures
