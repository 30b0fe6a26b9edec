use Rattle.std.proofs.Common.{◌≡◌, ◌+◌, ◌≤◌, length}
use Rattle.sgt_graph.specs.declared.homeward.TheConstants.{FAR}
use Rattle.sgt_graph.specs.Nearest.{AreSpread, far_of}
use Rattle.sgt_graph.proofs.measuring.measured.Given as goal

abbrev pub invariant-rounds : goal.invariant-rounds
invariant-rounds l = record {
  size : length l.distances.items ≡ l.nodes;
  spread : AreSpread l.edges FAR l.node l.round 0 l.round l.distances.items;
  few : l.round + far_of FAR l.distances.items ≤ l.nodes;
}

abbrev pub decreases-rounds : goal.decreases-rounds
decreases-rounds l = far_of FAR l.distances.items
