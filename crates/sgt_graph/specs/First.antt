-- Which cycle of a graph is shown: the first of all.
use Rattle.std.specs.Prelude.{◌≡◌, ◌≢◌, ◌⊎◌, ℕ, ◌<◌, List, [], ◌∷◌, length, Option, None, Some, Vec, AllPairs}
use Rattle.std.specs.Global.{Global}
use Rattle.sgt_graph.specs.declared.edge.Edge.{Edge}
use Rattle.sgt_graph.specs.Graph.{Goes, IsCycle}

-- of two lists of one length the first is the less where they differ first, or they are the same
abbrev pub IsWordFirst : List ℕ → List ℕ → Type 0
IsWordFirst [] others = Unit {0}
IsWordFirst (a ∷ more) [] = ⊥
IsWordFirst (a ∷ more) (b ∷ others) = (a < b) ⊎ ((a ≡ b) × IsWordFirst more others)

-- a cycle is shown before another, or is that: it begins at the lesser node; else it is shorter; else
-- its nodes are the less where they differ first
abbrev pub IsShownFirst : (cycle other : List ℕ) → Type 0
IsShownFirst [] other = ⊥
IsShownFirst (a ∷ more) [] = ⊥
IsShownFirst (a ∷ more) (b ∷ others) = (a < b)
    ⊎ ((a ≡ b) × ((length more < length others) ⊎ ((length more ≡ length others) × IsWordFirst more others)))

-- it is a cycle of the edges through the node, told from there; each node stands on it once; and it is shown
-- before each other one through the node
pub record IsFirstThrough (edges : List Edge) (node : ℕ) (cycle : List ℕ) : Type 0 where
  pub between : List ℕ
  pub begins : cycle ≡ node ∷ between
  pub is : IsCycle (Goes edges) cycle
  pub once : AllPairs (λ a b. a ≢ b) cycle
  pub first : (other : List ℕ) → IsCycle (Goes edges) (node ∷ other) → IsShownFirst cycle (node ∷ other)

-- it is that, or there is no cycle through the node
abbrev pub TellsFirstThrough : List Edge → ℕ → Option (Vec ℕ Global) → Type 0
TellsFirstThrough edges node None = (other : List ℕ) → IsCycle (Goes edges) (node ∷ other) → ⊥
TellsFirstThrough edges node (Some cycle) = IsFirstThrough edges node cycle.items

-- it is a cycle of the edges, and is shown before each, from whichever node that is told
pub record IsFirstCycle (edges : List Edge) (cycle : List ℕ) : Type 0 where
  pub is : IsCycle (Goes edges) cycle
  pub first : (other : List ℕ) → IsCycle (Goes edges) other → IsShownFirst cycle other

-- it is that, or there is no cycle
abbrev pub TellsFirst : List Edge → Option (Vec ℕ Global) → Type 0
TellsFirst edges None = (other : List ℕ) → IsCycle (Goes edges) other → ⊥
TellsFirst edges (Some cycle) = IsFirstCycle edges cycle.items
