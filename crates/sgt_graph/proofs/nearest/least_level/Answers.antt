use Rattle.std.proofs.Common.{◌+◌, sym, subst, arith}
use Rattle.sgt_graph.specs.declared.edge.Edge.{Edge}
use Rattle.sgt_graph.proofs.Levels.{LeastUpTo, least-hits, least-misses, none-told, some-told}
use Rattle.sgt_graph.proofs.nearest.least_level.Goals as goal
use Rattle.sgt_graph.proofs.nearest.least_level.Goals.{then-number_at, else-number_at}

pub loop-edge-preserved : goal.loop-edge-preserved
loop-edge-preserved c =
    let edges = c.args.edges.now in
    let ranks = c.args.ranks.now in
    let i = c.loop-edge.edge-index in
    let d : Edge = record { from = 0; to = 0 } in
    elim c.if-number_at.branch [
      | then-number_at w ↦ subst (LeastUpTo edges ranks (i + 1)) (sym w.least-is)
          (least-hits edges ranks i c.loop-edge.least w.lesser.result d c.loop-edge.invariant c.loop-edge-test.true
          w.lesser.ensures.here w.lesser.ensures.old)
      | else-number_at w ↦ subst (LeastUpTo edges ranks (i + 1)) (sym w.least-is)
          (least-misses edges ranks i c.loop-edge.least d c.loop-edge.invariant c.loop-edge-test.true
          (λ e. omega (arith, e, w.if-number_at.false, c.number_at.ensures, c.number_at-in-loop-edge.ensures)))
    ]

pub returns-clause-some : goal.returns-clause-some
returns-clause-some c =
    some-told c.args.edges.now c.args.ranks.now c.loop-edge.edge-index c.loop-edge.least c.requires
    c.loop-edge.invariant c.loop-edge-test.false

pub returns-clause-none : goal.returns-clause-none
returns-clause-none c =
    none-told c.args.edges.now c.args.ranks.now c.loop-edge.edge-index c.loop-edge.least c.requires
    c.loop-edge.invariant c.loop-edge-test.false
