use Rattle.std.proofs.Common.{◌≡◌, refl, subst, arith, Any, IsTrue}
use Rattle.std.specs.Prelude.{◌↔◌}
use Rattle.std.proofs.lemmas.Bool.{false≢true}
use Rattle.sgt_audit_cells.specs.private.Deeds.{ClashesWith}
use Rattle.sgt_audit_cells.specs.private.Linked.{chain}
use Rattle.sgt_audit_cells.specs.declared.act.Act.{Act}
use Rattle.sgt_audit_decisions.proofs.Loops.{refuted}
use Rattle.sgt_audit_cells.proofs.Linked.{back-early, back-within, back-step, back-here, back-end, both-ways}
use Rattle.sgt_audit_cells.proofs.chain.have_clash.Goals as goal

pub nodes-init : goal.nodes-init
nodes-init c = (c.requires.first, (λ h. h, λ h. h))

pub returns-then-clashes : goal.returns-then-clashes
returns-then-clashes c =
    let told = subst (λ (a : Act). IsTrue c.clashes.result ↔ ((a.place ≡ c.args.place)
    × Any (ClashesWith c.args.kind a) (chain c.args.nodes.now c.args.second))) c.act-act.ensures c.clashes.ensures in (
      λ _. c.nodes.invariant.1.1 (back-here c.args.nodes.now c.requires.linked c.nodes.at c.node_at-node.result
          c.nodes.invariant.0 c.nodes-test.true c.node_at-node.ensures (λ (a : Act). (a.place ≡ c.args.place)
          × Any (ClashesWith c.args.kind a) (chain c.args.nodes.now c.args.second))
          (told.0 c.if-clashes.true)),
      λ _. refl,
    )

pub nodes-smaller : goal.nodes-smaller
nodes-smaller c = back-early c.args.nodes.now c.requires.linked c.nodes.at c.node_at-node.result c.nodes.invariant.0
    c.nodes-test.true c.node_at-node.ensures

pub nodes-preserved : goal.nodes-preserved
nodes-preserved c =
    let told = subst (λ (a : Act). IsTrue c.clashes.result ↔ ((a.place ≡ c.args.place)
    × Any (ClashesWith c.args.kind a) (chain c.args.nodes.now c.args.second))) c.act-act.ensures c.clashes.ensures in (
      back-within c.args.nodes.now c.requires.linked c.nodes.at c.node_at-node.result c.nodes.invariant.0
          c.nodes-test.true c.node_at-node.ensures,
      both-ways c.nodes.invariant.1 (back-step c.args.nodes.now c.requires.linked c.nodes.at c.node_at-node.result
          c.nodes.invariant.0 c.nodes-test.true c.node_at-node.ensures (λ (a : Act). (a.place ≡ c.args.place)
          × Any (ClashesWith c.args.kind a) (chain c.args.nodes.now c.args.second))
          (refuted c.clashes.result told c.if-clashes.false)),
    )

pub returns : goal.returns
returns c = (
  λ h. absurd (false≢true h),
  λ any. absurd (back-end c.args.nodes.now c.nodes.at (λ (a : Act). (a.place ≡ c.args.place)
      × Any (ClashesWith c.args.kind a) (chain c.args.nodes.now c.args.second)) (omega (arith, c.nodes-test.false))
      (c.nodes.invariant.1.0 any)),
)
