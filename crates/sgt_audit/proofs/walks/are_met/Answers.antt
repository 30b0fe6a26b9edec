use Rattle.sgt_names.proofs.Lists.{All-next, element_at}
use Rattle.sgt_audit_decisions.proofs.Loops.{all-through}
use Rattle.sgt_audit.specs.Kept.{IsMet}
use Rattle.sgt_audit.proofs.walks.are_met.Goals as goal

pub loop-edge-preserved : goal.loop-edge-preserved
loop-edge-preserved c items entries t =
    All-next (IsMet entries) _ _ _ (element_at _ _ _ c.loop-edge-test.true c.edge-item.is)
    ((c.is_met.ensures items entries t).0 c.if-not-is_met.false) (c.loop-edge.invariant items entries t)

pub returns : goal.returns
returns c items entries t =
    all-through (IsMet entries) _ _ c.loop-edge-test.false (c.loop-edge.invariant items entries t)
