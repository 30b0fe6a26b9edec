use Rattle.std.proofs.Common.{◌-◌, refl, arith}
use Rattle.std.proofs.lemmas.Bool.{false≢true}
use Rattle.sgt_audit_cells.specs.private.Deeds.{IsOf}
use Rattle.sgt_audit_decisions.proofs.Loops.{refuted}
use Rattle.sgt_audit_cells.proofs.Linked.{back-early, back-within, back-step, back-here, back-end, both-ways}
use Rattle.sgt_audit_cells.proofs.chain.has_done.Goals as goal

pub nodes-init : goal.nodes-init
nodes-init c = (c.requires.within, (λ h. h, λ h. h))

pub returns-then-is_of : goal.returns-then-is_of
returns-then-is_of c = (
  λ _. c.nodes.invariant.1.1 (back-here c.args.nodes.now c.requires.linked c.nodes.at c.node_at-node.result
      c.nodes.invariant.0 c.nodes-test.true c.node_at-node.ensures (IsOf c.args.place c.args.change)
      ((c.is_of.ensures (c.nodes.at - 1)).0 c.if-is_of.true)),
  λ _. refl,
)

pub nodes-smaller : goal.nodes-smaller
nodes-smaller c = back-early c.args.nodes.now c.requires.linked c.nodes.at c.node_at-node.result c.nodes.invariant.0
    c.nodes-test.true c.node_at-node.ensures

pub nodes-preserved : goal.nodes-preserved
nodes-preserved c = (
  back-within c.args.nodes.now c.requires.linked c.nodes.at c.node_at-node.result c.nodes.invariant.0
      c.nodes-test.true c.node_at-node.ensures,
  both-ways c.nodes.invariant.1 (back-step c.args.nodes.now c.requires.linked c.nodes.at c.node_at-node.result
      c.nodes.invariant.0 c.nodes-test.true c.node_at-node.ensures (IsOf c.args.place c.args.change)
      (refuted c.is_of.result (c.is_of.ensures (c.nodes.at - 1)) c.if-is_of.false)),
)

pub returns : goal.returns
returns c = (
  λ h. absurd (false≢true h),
  λ any. absurd (back-end c.args.nodes.now c.nodes.at (IsOf c.args.place c.args.change)
      (omega (arith, c.nodes-test.false)) (c.nodes.invariant.1.0 any)),
)
