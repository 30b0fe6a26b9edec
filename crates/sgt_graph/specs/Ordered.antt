-- What sorting the nodes of a graph comes to.
use Rattle.std.specs.Prelude.{ℕ, List}
use Rattle.sgt_graph.specs.declared.edge.Edge.{Edge}
use Rattle.sgt_graph.specs.declared.sorting.Ordered.{Ordered}
use Rattle.sgt_graph.specs.declared.sorting.Ordered.TheVariants.{Order, Cycle}
use Rattle.sgt_graph.specs.Graph.{Goes, IsCycle, IsOrder}

-- an order of the nodes, or a cycle of the edges
abbrev pub IsOrdered : ℕ → List Edge → Ordered → Type 0
IsOrdered nodes edges (Order order) = IsOrder nodes edges order.items
IsOrdered nodes edges (Cycle cycle) = IsCycle (Goes edges) cycle.items
