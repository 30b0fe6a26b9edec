use Rattle.std.proofs.Common.{arith}
use Rattle.std.proofs.lemmas.List.{nil_from_length}
use Rattle.std.proofs.lemmas.Result.{IfOk-weaker}
use Rattle.sgt_audit_decisions.proofs.Walks.{is-cycle, cycle-closed, cycle-long, cycle-apart, cycle-through, no-walk}
use Rattle.sgt_audit_decisions.proofs.Loops.{answered-no, ne-true, not-empty, empty, refuted}
use Rattle.sgt_audit_decisions.proofs.cycles.is_cycle.Goals as goal
use Rattle.sgt_audit_decisions.proofs.cycles.is_cycle.Goals.{then-ne-via-then-ne, then-ne-via-else-ne+then-is_empty, then-ne-via-else-ne+else-is_empty+then-not-lead_to_committed}
use Rattle.sgt_names.proofs.Elements.{ne-same}

pub returns-else-not-lead_to_committed : goal.returns-else-not-lead_to_committed
returns-else-not-lead_to_committed c =
    let whole = c.in-Some.ensures.cases.0 in
    IfOk-weaker c.are_distinct.result _ _
    (λ answer both. (
      λ yes.
          is-cycle _ _ _ _ c.in-Some.between.now c.in-Some.last.now whole (ne-same _ _ _ c.ne.ensures c.if-ne.false)
          (not-empty _ _ c.is_empty.ensures c.if-is_empty.false)
          (both.0 yes) (c.lead_to_committed.ensures.0 c.if-not-lead_to_committed.false),
      λ cycle. both.1 (cycle-apart _ _ _ _ c.in-Some.between.now c.in-Some.last.now whole cycle),
    ))
    c.are_distinct.ensures

pub returns-then-ne : goal.returns-then-ne
returns-then-ne c =
    let whole = c.in-Some.ensures.cases.0 in
    elim c.then-ne.branch [
      | then-ne-via-then-ne w ↦ answered-no
          (λ cycle. ne-true _ _ _ c.ne.ensures w.if-ne.true
          (cycle-closed _ _ _ _ c.in-Some.between.now c.in-Some.last.now whole cycle))
      | then-ne-via-else-ne+then-is_empty w ↦ answered-no (λ cycle.
          let long = cycle-long _ _ _ _ c.in-Some.between.now c.in-Some.last.now whole cycle in
          let none = empty _ _ w.is_empty.ensures w.if-is_empty.true in omega arith)
      | then-ne-via-else-ne+else-is_empty+then-not-lead_to_committed w ↦ answered-no (λ cycle.
          refuted w.lead_to_committed.result w.lead_to_committed.ensures w.if-not-lead_to_committed.true
          (cycle-through _ _ _ _ c.in-Some.between.now c.in-Some.last.now whole cycle))
    ]

pub returns-in-None : goal.returns-in-None
returns-in-None c = answered-no (no-walk _ _ _ _ (nil_from_length c.args.walk.now c.in-None.ensures.cases))
