use Rattle.std.proofs.Common.{◌-◌, ◌∙◌, refl, sym, subst, arith, Any}
use Rattle.std.specs.Prelude.{◌↔◌}
use Rattle.sgt_audit_cells.specs.private.Deeds.{IsOf}
use Rattle.sgt_audit_cells.specs.private.Linked.{chain}
use Rattle.sgt_audit_cells.specs.private.Rows.{HasMark}
use Rattle.sgt_audit_cells.proofs.Linked.{back-early, back-within, back-end}
use Rattle.sgt_audit_cells.proofs.Rows.{blank, none-marked, all-marked, moved, any-split}
use Rattle.sgt_audit_cells.proofs.Tracking.{got}
use Rattle.sgt_audit_cells.proofs.row.row_of.Goals as goal

pub nodes-init : goal.nodes-init
nodes-init c = (
  c.requires.within,
  refl,
  λ place change. none-marked
      (blank (record { upto = c.args.last; reads = c.in_ok-reads.reads; changes = c.in_ok-changes.changes })
      c.in_ok-reads.ensures c.in_ok-changes.ensures change place),
)

pub nodes-smaller : goal.nodes-smaller
nodes-smaller c = back-early c.args.nodes.now c.requires.linked c.nodes.at c.in-Some.node.now c.nodes.invariant.0
    c.nodes-test.true (got _ _ _ _ refl c.in-Some.ensures.lookup.0 c.in-Some.ensures.lookup.1)

pub nodes-preserved : goal.nodes-preserved
nodes-preserved c =
    let there = got _ _ _ _ refl c.in-Some.ensures.lookup.0 c.in-Some.ensures.lookup.1 in (
      back-within c.args.nodes.now c.requires.linked c.nodes.at c.in-Some.node.now c.nodes.invariant.0
          c.nodes-test.true there,
      c.add.ensures.node ∙ c.nodes.invariant.1,
      λ place change. moved (c.nodes.invariant.2 place change) (c.add.ensures.set c.if-add.true (c.nodes.at - 1) place change)
          (any-split c.args.nodes.now c.requires.linked c.nodes.at c.in-Some.node.now c.nodes-test.true there
          (IsOf place change)),
    )

pub returns : goal.returns
returns c = (
  omega (arith, c.nodes.invariant.1, c.requires.within),
  λ place change. subst (λ k. Any (IsOf place change) (chain c.args.nodes.now k) ↔ HasMark c.nodes.row change place)
      (sym c.nodes.invariant.1)
      (all-marked (c.nodes.invariant.2 place change) (back-end c.args.nodes.now c.nodes.at (IsOf place change)
      (omega (arith, c.nodes-test.false)))),
)
