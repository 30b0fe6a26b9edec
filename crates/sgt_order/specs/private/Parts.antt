-- What is always true of a graph's parts.
use Rattle.std.specs.Prelude.{◌≡◌, ◌↔◌, ℕ, ◌+◌, ◌-◌, ◌≤◌, List, [], ◌∷◌, Some, if◌then◌else◌, map, slice_get}
use Rattle.smallvec.specs.SmallVec.{SmallVec, small_vec_len}
use Rattle.sgt_arena.specs.declared.handle.Handle.{Handle}
use Rattle.sgt_arena.specs.Arena.{Arena, get}
use Rattle.sgt_edges.specs.declared.edge.Edge.{Edge}
use Rattle.sgt_order.specs.declared.node.Node.{Node}
use Rattle.sgt_order.specs.declared.dag.Dag.{Dag}
use Rattle.sgt_order.specs.SerializationGraph.{StandsBefore, leaves}

-- the members of the order are of this window, no two are the same, and each edge leads from an
-- earlier to a later one
pub record IsForward (generation : ℕ) (order : List Handle) (edges : List Edge) : Type 0 where
  pub window : (p : ℕ) (h : Handle) → slice_get order p ≡ Some h → h.generation ≡ generation
  pub once : (p q : ℕ) (h : Handle) → slice_get order p ≡ Some h → slice_get order q ≡ Some h
      → p ≡ q
  pub forward : (n : ℕ) (e : Edge) → slice_get edges n ≡ Some e → StandsBefore order e.from e.to

-- the numbers of the edges that come from h, where the first of these edges has the number n
abbrev pub numbers : Handle → ℕ → List Edge → List ℕ
numbers h n [] = []
numbers h n (e ∷ es) = if leaves h e then n ∷ numbers h (n + 1) es else numbers h (n + 1) es

-- the list has the numbers of the edges that come from h
pub record ListsEdges (edges : List Edge) (h : Handle) (out : SmallVec ℕ) : Type 0 where
  pub is : out.items ≡ numbers h 0 edges
  pub fits : small_vec_len out ≤ out.capacity

-- each node lists the edges that come from it
abbrev pub Lists : Arena Node → List Edge → Type 0
Lists nodes edges = (h : Handle) (node : Node) → get nodes h ≡ Some node
    → ListsEdges edges h node.out

-- each member of the order is a node, and each node lists its edges
pub record Holds (nodes : Arena Node) (order : List Handle) (edges : List Edge) : Type 0 where
  pub placed : (p : ℕ) (h : Handle) → slice_get order p ≡ Some h
      → (node : Node) × (get nodes h ≡ Some node)
  pub lists : Lists nodes edges

-- each node tells where it stands in the order
abbrev pub TellsPlaces : Arena Node → List Handle → Type 0
TellsPlaces nodes order =
    (h : Handle) (node : Node) → get nodes h ≡ Some node → (p : ℕ)
    → (node.place ≡ Some p) ↔ (slice_get order p ≡ Some h)

-- the nodes, the order and the edges fit together
pub record FitTogether (nodes : Arena Node) (order : List Handle) (edges : List Edge) : Type 0 where
  pub forward : IsForward nodes.generation order edges
  pub holds : Holds nodes order edges
  pub tells : TellsPlaces nodes order

abbrev pub IsSound : Dag → Type 0
IsSound dag = FitTogether dag.nodes dag.order.items dag.edges.items

-- the transaction of each node
abbrev pub transactions_of : Arena Node → List ℕ
transactions_of nodes = map (λ (node : Node). node.tx) nodes.items

-- how many more edges each node can list without taking memory
abbrev pub rooms_of : Arena Node → List ℕ
rooms_of nodes = map (λ (node : Node). node.out.capacity - small_vec_len node.out) nodes.items
