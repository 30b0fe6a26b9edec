use Rattle.std.proofs.Common.{arith}
use Rattle.sgt_bundle.specs.Certificate.{is_commit, is_refusal, is_withdrawal}
use Rattle.sgt_audit.proofs.Counts.{count-few, count-next}
use Rattle.sgt_audit.proofs.verdict.yes_to.Goals as goal

pub overflow_add-committed : goal.overflow_add-committed
overflow_add-committed c =
    let few = count-few is_commit _ _ _ c.loop-decision-test.true c.loop-decision.invariant.0 _ _ _ c.decision-item.is
    c.is_commit.ensures c.from-committed.ensures in
    omega (arith, few)

pub overflow_add-refused : goal.overflow_add-refused
overflow_add-refused c =
    let few =
    count-few is_refusal _ _ _ c.loop-decision-test.true c.loop-decision.invariant.1 _ _ _ c.decision-item.is
    c.is_refusal.ensures c.from-refused.ensures in
    omega (arith, few)

pub overflow_add-withdrawn : goal.overflow_add-withdrawn
overflow_add-withdrawn c =
    let few =
    count-few is_withdrawal _ _ _ c.loop-decision-test.true c.loop-decision.invariant.2 _ _ _ c.decision-item.is
    c.is_withdrawal.ensures c.from-withdrawn.ensures in
    omega (arith, few)

pub loop-decision-preserved : goal.loop-decision-preserved
loop-decision-preserved c = (
  count-next is_commit _ _ _ c.loop-decision-test.true c.loop-decision.invariant.0 _ _ _ c.decision-item.is
      c.is_commit.ensures c.from-committed.ensures,
  count-next is_refusal _ _ _ c.loop-decision-test.true c.loop-decision.invariant.1 _ _ _ c.decision-item.is
      c.is_refusal.ensures c.from-refused.ensures,
  count-next is_withdrawal _ _ _ c.loop-decision-test.true c.loop-decision.invariant.2 _ _ _ c.decision-item.is
      c.is_withdrawal.ensures c.from-withdrawn.ensures,
)
