-- Directed graphs whose nodes are the numbers below a limit, given by their edges: cycles; and the
-- order in which each node comes once all are there from which an edge leads to it, of several such
-- nodes the least first.
use Rattle.std.specs.Prelude.{◌≡◌, ℕ, ◌<◌, ◌≤◌, List, [], ◌∷◌, ◌++◌, Some, slice_get, take, All, Contains}
use Rattle.sgt_graph.specs.declared.edge.Edge.{Edge}

-- the edge leads from a node to a node
abbrev pub JoinsNodes : ℕ → Edge → Type 0
JoinsNodes nodes e = (e.from < nodes) × (e.to < nodes)

-- an edge leads from the first to the second
abbrev pub Goes : List Edge → ℕ → ℕ → Type 0
Goes edges a b = Contains edges (record { from = a; to = b })

-- ---- cycles

-- each number stands in the relation to the next one, from a on
abbrev pub IsChain : (ℕ → ℕ → Type 0) → ℕ → List ℕ → Type 0
IsChain R a [] = Unit {0}
IsChain R a (b ∷ bs) = R a b × IsChain R b bs

-- and the last one to the first
abbrev pub IsCycle : (ℕ → ℕ → Type 0) → List ℕ → Type 0
IsCycle R [] = ⊥
IsCycle R (a ∷ between) = IsChain R a (between ++ a ∷ [])

-- ---- orders

-- the first stands in the order before the second
pub record Precedes (order : List ℕ) (first second : ℕ) : Type 0 where
  pub i : ℕ
  pub j : ℕ
  pub before : i < j
  pub first_at : slice_get order i ≡ Some first
  pub second_at : slice_get order j ≡ Some second

-- the node may stand behind those placed: it isn't one of them, and all edges to it lead from them
pub record IsFree (nodes : ℕ) (edges : List Edge) (placed : List ℕ) (v : ℕ) : Type 0 where
  pub node : v < nodes
  pub left : Contains placed v → ⊥
  pub behind : (a : ℕ) → Goes edges a v → Contains placed a

-- it is the least of those that may
pub record IsLeastFree (nodes : ℕ) (edges : List Edge) (placed : List ℕ) (v : ℕ) : Type 0 where
  pub free : IsFree nodes edges placed v
  pub least : (w : ℕ) → IsFree nodes edges placed w → v ≤ w

-- each is the least that may stand behind those before it
abbrev pub IsLeastFirst : ℕ → List Edge → List ℕ → Type 0
IsLeastFirst nodes edges order = (i v : ℕ) → slice_get order i ≡ Some v → IsLeastFree nodes edges (take i order) v

-- all nodes, each once, in an order in which all edges lead onward, the least first
pub record IsOrder (nodes : ℕ) (edges : List Edge) (order : List ℕ) : Type 0 where
  pub within : All (λ v. v < nodes) order
  pub all : (v : ℕ) → v < nodes → Contains order v
  pub once : (i j v : ℕ) → slice_get order i ≡ Some v → slice_get order j ≡ Some v → i ≡ j
  pub onward : (a b : ℕ) → Goes edges a b → Precedes order a b
  pub least : IsLeastFirst nodes edges order
