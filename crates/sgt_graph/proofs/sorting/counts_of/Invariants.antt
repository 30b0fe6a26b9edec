use Rattle.std.proofs.Common.{take}
use Rattle.sgt_graph.proofs.Placing.{AreCounted}
use Rattle.sgt_graph.proofs.sorting.counts_of.Given as goal

abbrev pub invariant-counting : goal.invariant-counting
invariant-counting l = AreCounted l.nodes (take l.edge-index l.edges) l.counts.items
