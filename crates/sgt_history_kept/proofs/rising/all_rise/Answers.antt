use Rattle.std.proofs.Common.{List, Option, ℕ, subst}
use Rattle.std.proofs.lemmas.Result.{IfOk-weaker}
use Rattle.sgt_history_kept.specs.Rising.{Rises}
use Rattle.sgt_history_kept.proofs.Risings.{rises-all}
use Rattle.sgt_history_time.specs.Kept.{IsBefore, IsEarlier}
use Rattle.sgt_history_time.specs.declared.times.Times.{Times}
use Rattle.sgt_history_kept.proofs.rising.all_rise.Goals as goal

pub returns : goal.returns
returns c =
    let left = c.args.left.now in
    let right = c.args.right.now in
    IfOk-weaker c.times_rise.result _ _ (λ holds in_time yes.
    rises-all c.args.edges.now c.args.asked.now left right (c.conflicts_rise.ensures c.if-not-conflicts_rise.false)
    (subst (λ (ss : List (Option ℕ)). Rises (IsEarlier ss) left right) c.as_slice.ensures.value
    (c.in_ok-in_sessions.ensures c.if-not-in_sessions.false))
    (subst (λ (ts : List (Option Times)). Rises (IsBefore ts) left right) c.as_slice-2.ensures.value (in_time yes)))
    c.times_rise.ensures
