-- How the parts of a graph grow.
use Rattle.std.specs.Prelude.{◌≡◌, ◌⊎◌, ℕ, ◌+◌, ◌<◌, ◌≤◌, List, Some, length, filter, slice_get, Vec, vec_len, vec_capacity}
use Rattle.std.specs.declared.alloc.Global.{Global}
use Rattle.smallvec.specs.SmallVec.{small_vec_len}
use Rattle.sgt_arena.specs.declared.handle.Handle.{Handle}
use Rattle.sgt_arena.specs.Arena.{Arena, get}
use Rattle.sgt_edges.specs.declared.edge.Edge.{Edge}
use Rattle.sgt_order.specs.declared.node.Node.{Node}
use Rattle.sgt_order.specs.declared.dag.Dag.{Dag}
use Rattle.sgt_order.specs.SerializationGraph.{leaves}
use Rattle.sgt_order.specs.private.Parts.{transactions_of}

-- the same transactions stand under the same handles
pub record SameNodes (old new : Arena Node) : Type 0 where
  pub generation : new.generation ≡ old.generation
  pub transactions : transactions_of new ≡ transactions_of old

-- the same nodes at the places where they were, whose lists have no less room in all
pub record Widened (old new : Arena Node) : Type 0 where
  pub same : SameNodes old new
  pub wider : (h : Handle) (node : Node) → get new h ≡ Some node
      → (was : Node) × (get old h ≡ Some was) × (was.out.capacity ≤ node.out.capacity)
      × (node.place ≡ was.place)

-- the node was told a place from first on, and stands there; or it kept its place, and stands at
-- none from first on
abbrev pub IsTold : ℕ → List Handle → Handle → Node → Node → Type 0
IsTold first order h was node =
    ((p : ℕ) × (first ≤ p) × (slice_get order p ≡ Some h) × (node.place ≡ Some p))
    ⊎ (((p : ℕ) → first ≤ p → slice_get order p ≡ Some h → ⊥) × (node.place ≡ was.place))

-- the same nodes with the same lists, each told its place in the order where that is first or later
pub record Renumbered (first : ℕ) (order : List Handle) (old new : Arena Node) : Type 0 where
  pub same : SameNodes old new
  pub told : (h : Handle) (node : Node) → get new h ≡ Some node
      → (was : Node) × (get old h ≡ Some was) × (node.out ≡ was.out) × IsTold first order h was node

-- one more member fits in the order, so many in the region's next order, and so many more edges
-- among the edges
abbrev pub HaveRoom : Dag → Vec Handle Global → ℕ → ℕ → Type 0
HaveRoom dag next members more =
    (members ≤ vec_capacity next) × (vec_len dag.order < vec_capacity dag.order)
    × (vec_len dag.edges + more ≤ vec_capacity dag.edges)

-- each node can list those of the added edges that come from it without taking memory
abbrev pub HaveSpace : Arena Node → List Edge → Type 0
HaveSpace nodes added =
    (h : Handle) (node : Node) → get nodes h ≡ Some node
    → small_vec_len node.out + length (filter (leaves h) added) ≤ node.out.capacity

-- the order and the edges stay, and there is no less room
pub record KeepsRoom (old new : Dag) (next next' : Vec Handle Global) : Type 0 where
  pub nodes : Widened old.nodes new.nodes
  pub order : new.order.items ≡ old.order.items
  pub edges : new.edges.items ≡ old.edges.items
  pub order_room : vec_capacity old.order ≤ vec_capacity new.order
  pub edge_room : vec_capacity old.edges ≤ vec_capacity new.edges
  pub next_room : vec_capacity next ≤ vec_capacity next'
