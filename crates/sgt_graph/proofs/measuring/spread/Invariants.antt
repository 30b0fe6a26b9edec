use Rattle.std.proofs.Common.{◌≡◌, ◌+◌, ◌<◌, ℕ, true, false, length}
use Rattle.sgt_graph.specs.declared.homeward.TheConstants.{FAR}
use Rattle.sgt_graph.specs.Nearest.{AreSpread, far_of}
use Rattle.sgt_graph.proofs.measuring.spread.Given as goal

abbrev pub invariant-loop-edge : goal.invariant-loop-edge
invariant-loop-edge l = record {
  size : length l.distances ≡ length l.fn.distances;
  spread : (v : ℕ) → AreSpread l.edges FAR v l.round 0 l.round l.fn.distances
      → AreSpread l.edges FAR v l.round l.edge-index (l.round + 1) l.distances;
  same : l.found ≡ false → l.distances ≡ l.fn.distances;
  fewer : l.found ≡ true → far_of FAR l.distances < far_of FAR l.fn.distances;
}
