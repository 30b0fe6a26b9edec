use Rattle.std.proofs.Common.{ℕ, ◌+◌, ◌<◌, slice_index, sym, subst, arith, Vec, Global, List}
use Rattle.std.proofs.lemmas.List.{take_all}
use Rattle.sgt_graph.specs.declared.edge.Edge.{Edge}
use Rattle.sgt_graph.specs.Graph.{Goes}
use Rattle.sgt_graph.proofs.Trails.{IsLed, AreSources, sources-hit, sources-miss}
use Rattle.sgt_graph.proofs.walking.sources_of.Goals as goal
use Rattle.sgt_graph.proofs.walking.sources_of.Goals.{then-waits-edge-gt0, else-waits-edge-gt0}

pub loop-edge-preserved : goal.loop-edge-preserved
loop-edge-preserved c =
    let P : Vec ℕ Global
    → Type 0 = λ s. AreSources c.args.waits.now c.args.edges.now (c.loop-edge.edge-index + 1) s.items in
    let small = c.requires c.loop-edge.edge-index (record { from = 0; to = 0 }) c.loop-edge-test.true in
    elim c.if-waits-edge-gt0.branch [
      | then-waits-edge-gt0 w ↦ subst P (sym w.sources-is)
          (sources-hit c.args.waits.now c.args.edges.now c.loop-edge.edge-index c.loop-edge.sources.items
          (record { from = 0; to = 0 }) c.loop-edge.invariant c.loop-edge-test.true small.1
          w.if-waits-edge-gt0.true)
      | else-waits-edge-gt0 w ↦ subst P (sym w.sources-is)
          (sources-miss c.args.waits.now c.args.edges.now c.loop-edge.edge-index c.loop-edge.sources.items
          (record { from = 0; to = 0 }) c.loop-edge.invariant c.loop-edge-test.true
          (omega (arith, w.if-waits-edge-gt0.false)))
    ]

pub returns-clause-sources : goal.returns-clause-sources
returns-clause-sources c =
    (subst (λ (es : List Edge). (a v : ℕ) → Goes es a v → 0 < slice_index c.args.waits.now a
    → IsLed c.args.waits.now c.args.edges.now c.loop-edge.sources.items v)
    (take_all c.loop-edge.edge-index c.args.edges.now c.loop-edge-test.false) c.loop-edge.invariant.led)
