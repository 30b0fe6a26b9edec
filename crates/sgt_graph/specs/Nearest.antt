-- How far it is from each node to one of them, and what that tells of cycles through it.
use Rattle.std.specs.Prelude.{◌≡◌, ◌==◌, ◌⊎◌, ℕ, zero, suc, ◌+◌, ◌<◌, ◌≤◌, List, [], ◌∷◌, ◌++◌, length, count_by, Option, None, Some, All, Contains, slice_index, slice_get}
use Rattle.sgt_graph.specs.declared.edge.Edge.{Edge}
use Rattle.sgt_graph.specs.Graph.{Goes, IsChain, JoinsNodes}
use Rattle.sgt_graph.specs.Rows.{HasRows}

-- these are the nodes to which edges lead from the node
pub record AreTargets (edges : List Edge) (a : ℕ) (targets : List ℕ) : Type 0 where
  pub sound : (b : ℕ) → Contains targets b → Goes edges a b
  pub all : (b : ℕ) → Goes edges a b → Contains targets b

-- ---- ranks: which edges may be on a cycle

-- no edge leads to a node of a greater rank
abbrev pub AreFalling : List Edge → (ranks : List ℕ) → Type 0
AreFalling edges ranks = (a b : ℕ) → Goes edges a b → slice_index ranks b ≤ slice_index ranks a

-- each edge from a node below this one leads to one of a lesser rank
abbrev pub FallBelow : List Edge → (ranks : List ℕ) → ℕ → Type 0
FallBelow edges ranks v = (a b : ℕ) → Goes edges a b → a < v → slice_index ranks b < slice_index ranks a

-- ---- distances

-- no edge leads to a node that is nearer by more than one
abbrev pub AreClosed : List Edge → (distances : List ℕ) → Type 0
AreClosed edges distances = (a b : ℕ) → Goes edges a b → slice_index distances a ≤ slice_index distances b + 1

-- so many edges lead from the one node to the other
abbrev pub Reaches : List Edge → ℕ → (a v : ℕ) → Type 0
Reaches edges zero a v = a ≡ v
Reaches edges (suc n) a v = (b : ℕ) × Goes edges a b × Reaches edges n b v

-- each distance, but one that is too far, is that of a walk to the node
abbrev pub AreWalked : List Edge → (far : ℕ) → (distances : List ℕ) → ℕ → Type 0
AreWalked edges far distances v = (a : ℕ) → a < length distances → slice_index distances a < far
    → Reaches edges (slice_index distances a) a v

-- they are the lengths of the shortest walks to the node, but too far where none leads
pub record AreMeasured (edges : List Edge) (far : ℕ) (distances : List ℕ) (v : ℕ) : Type 0 where
  pub joins : All (JoinsNodes (length distances)) edges
  pub home : slice_index distances v ≡ 0
  pub closed : AreClosed edges distances
  pub reached : (a b : ℕ) → Goes edges a b → slice_index distances b < far → slice_index distances a < far
  pub walked : AreWalked edges far distances v

-- those of walks of so many edges at most, while some of one more are added: those that lead by the first k edges
pub record AreSpread (edges : List Edge) (far : ℕ) (v round k most : ℕ) (distances : List ℕ) : Type 0 where
  pub home : slice_index distances v ≡ 0
  pub small : (a : ℕ) → slice_index distances a ≤ far
  pub near : (a : ℕ) → slice_index distances a < far → slice_index distances a ≤ most
  pub closed : (a b : ℕ) → Goes edges a b → slice_index distances b < round
      → slice_index distances a ≤ slice_index distances b + 1
  pub done : (i : ℕ) (e : Edge) → i < k → slice_get edges i ≡ Some e → slice_index distances e.to ≡ round
      → slice_index distances e.from ≤ round + 1
  pub walked : AreWalked edges far distances v

-- how many are too far
abbrev pub far_of : (far : ℕ) → (distances : List ℕ) → ℕ
far_of far distances = count_by (λ d. d == far) distances

-- ---- ways

-- the first is nearer, or as near and not greater
abbrev pub IsNearer : (distances : List ℕ) → ℕ → ℕ → Type 0
IsNearer distances a b = (slice_index distances a < slice_index distances b)
    ⊎ ((slice_index distances a ≡ slice_index distances b) × (a ≤ b))

-- it is the nearest of the nodes, of several the least, if there is one
abbrev pub IsNearest : (distances targets : List ℕ) → Option ℕ → Type 0
IsNearest distances targets None = length targets ≡ 0
IsNearest distances targets (Some t) = Contains targets t × ((b : ℕ) → Contains targets b → IsNearer distances t b)

-- from the node on each is the nearest of those to which edges lead, and as far as there are nodes behind it
abbrev pub IsHomeward : List Edge → (distances : List ℕ) → ℕ → List ℕ → Type 0
IsHomeward edges distances a [] = Unit {0}
IsHomeward edges distances a (b ∷ bs) = Goes edges a b × (slice_index distances b ≡ length bs)
    × ((t : ℕ) → Goes edges a t → IsNearer distances b t) × IsHomeward edges distances b bs

-- it is a cycle that leads so from the node back to it
pub record IsWayHome (edges : List Edge) (distances : List ℕ) (node : ℕ) (cycle : List ℕ) : Type 0 where
  pub between : List ℕ
  pub is : cycle ≡ node ∷ between
  pub homeward : IsHomeward edges distances node (between ++ node ∷ [])

-- one that began so is at this node, from which it is so far
pub record IsOnWay (edges : List Edge) (distances : List ℕ) (node here left : ℕ) (cycle : List ℕ) : Type 0 where
  pub left_is : slice_index distances here ≡ left
  pub from : ℕ
  pub goes : Goes edges from here
  pub between : List ℕ
  pub is : cycle ≡ node ∷ between
  pub closing : (rest : List ℕ) → length rest ≡ left → IsHomeward edges distances here rest
      → IsHomeward edges distances node (between ++ here ∷ rest)
  pub near : (far : ℕ) → 0 < far → AreMeasured edges far distances node → (other : List ℕ)
      → IsChain (Goes edges) node (other ++ node ∷ []) → left < far

-- no cycle is told from this node; from none below it
abbrev pub NoneFrom : List Edge → ℕ → Type 0
NoneFrom edges v = (between : List ℕ) → IsChain (Goes edges) v (between ++ v ∷ []) → ⊥

abbrev pub NoneBelow : List Edge → ℕ → Type 0
NoneBelow edges v = (u : ℕ) → u < v → NoneFrom edges u

-- the rows are those of the edges, which join so many nodes
pub record AreRowsOf (nodes : ℕ) (edges : List Edge) (starts targets : List ℕ) : Type 0 where
  pub rows : HasRows nodes edges starts targets
  pub joins : All (JoinsNodes nodes) edges
