use Rattle.std.proofs.Common.{◌-◌, refl, subst, arith, IsTrue}
use Rattle.std.specs.Prelude.{◌↔◌}
use Rattle.std.proofs.lemmas.Bool.{false≢true}
use Rattle.sgt_audit_cells.specs.private.Deeds.{ClashesWith}
use Rattle.sgt_audit_decisions.proofs.Loops.{refuted}
use Rattle.sgt_audit_cells.proofs.Linked.{back-early, back-within, back-step, back-here, back-end, both-ways}
use Rattle.sgt_audit_cells.proofs.chain.clashes.Goals as goal

pub returns-then-act-place : goal.returns-then-act-place
returns-then-act-place c = (λ h. absurd (false≢true h), λ both. absurd (omega (arith, both.0, c.if-act-place.true)))

pub nodes-init : goal.nodes-init
nodes-init c = (c.requires.within, (λ h. h, λ h. h))

pub returns-then-clashes_with : goal.returns-then-clashes_with
returns-then-clashes_with c =
    let told = subst (λ a. IsTrue c.clashes_with.result ↔ ClashesWith c.args.kind c.args.act.now a) c.act.ensures
    c.clashes_with.ensures in (
      λ _. (
        omega (arith, c.if-act-place.false),
        c.nodes.invariant.1.1 (back-here c.args.nodes.now c.requires.linked c.nodes.at c.node_at-node.result
            c.nodes.invariant.0 c.nodes-test.true c.node_at-node.ensures (ClashesWith c.args.kind c.args.act.now)
            (told.0 c.if-clashes_with.true)),
      ),
      λ _. refl,
    )

pub nodes-smaller : goal.nodes-smaller
nodes-smaller c = back-early c.args.nodes.now c.requires.linked c.nodes.at c.node_at-node.result c.nodes.invariant.0
    c.nodes-test.true c.node_at-node.ensures

pub nodes-preserved : goal.nodes-preserved
nodes-preserved c =
    let told = subst (λ a. IsTrue c.clashes_with.result ↔ ClashesWith c.args.kind c.args.act.now a) c.act.ensures
    c.clashes_with.ensures in (
      back-within c.args.nodes.now c.requires.linked c.nodes.at c.node_at-node.result c.nodes.invariant.0
          c.nodes-test.true c.node_at-node.ensures,
      both-ways c.nodes.invariant.1 (back-step c.args.nodes.now c.requires.linked c.nodes.at c.node_at-node.result
          c.nodes.invariant.0 c.nodes-test.true c.node_at-node.ensures (ClashesWith c.args.kind c.args.act.now)
          (refuted c.clashes_with.result told c.if-clashes_with.false)),
    )

pub returns : goal.returns
returns c = (
  λ h. absurd (false≢true h),
  λ both. absurd (back-end c.args.nodes.now c.nodes.at (ClashesWith c.args.kind c.args.act.now)
      (omega (arith, c.nodes-test.false)) (c.nodes.invariant.1.0 both.1)),
)
