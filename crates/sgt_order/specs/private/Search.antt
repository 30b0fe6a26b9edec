-- The search for what a node reaches, and the walk back.
use Rattle.std.specs.Prelude.{◌≡◌, ◌⊎◌, ℕ, suc, ◌<◌, ◌≤◌, List, Option, Some, None, Bool, is_some, length, filter, replicate, slice_get, slice_index_or, Contains}
use Rattle.sgt_arena.specs.declared.handle.Handle.{Handle}
use Rattle.sgt_edges.specs.declared.edge.Edge.{Edge}
use Rattle.sgt_order.specs.SerializationGraph.{IsOffered, Links, StandsBefore, is_present}
use Rattle.sgt_order.specs.declared.dag.Dag.{Dag}
use Rattle.sgt_order.specs.private.Parts.{IsForward, IsSound}
use Rattle.sgt_order.specs.private.Rows.{HasBit, RowsCover}

-- the edges with both ends in the window of h
abbrev pub in_window : Handle → List Edge → List Edge
in_window h offered = filter (is_present h.generation) offered

-- h can be admitted with these edges: it is of this window and no member of the order, and each
-- edge is between it and one
pub record IsAdmissible (generation : ℕ) (order : List Handle) (h : Handle) (given : List Edge) : Type 0 where
  pub window : h.generation ≡ generation
  pub fresh : (p : ℕ) → slice_get order p ≡ Some h → ⊥
  pub offered : (n : ℕ) (e : Edge) → slice_get given n ≡ Some e → IsOffered order h e

-- the mark of the node with this index is this edge
abbrev pub Has : List (Option Edge) → ℕ → Edge → Type 0
Has marks k e = slice_get marks k ≡ Some (Some e)

-- the node with this index has a mark
abbrev pub IsMarked : List (Option Edge) → ℕ → Type 0
IsMarked marks k = (e : Edge) × Has marks k e

-- each node whose bit is set has a mark
abbrev pub AreMet : List ℕ → List (Option Edge) → Type 0
AreMet met marks = (i : ℕ) → HasBit met i → IsMarked marks i

-- whether the node with this handle has a mark
abbrev pub is_marked : List (Option Edge) → Handle → Bool
is_marked marks h = is_some (slice_index_or marks h.index None)

-- no node has a mark
abbrev pub no_marks : ℕ → List (Option Edge)
no_marks n = replicate n None

-- the targets of the edges that P holds of were marked, where they were not, and nothing else
pub record Marked (P : Edge → Type 0) (old new : List (Option Edge)) : Type 0 where
  pub kept : (k : ℕ) (e : Edge) → Has old k e → Has new k e
  pub fresh : (k : ℕ) (e : Edge) → Has new k e → Has old k e ⊎ (P e × (e.to.index ≡ k))
  pub done : (e : Edge) → P e → IsMarked new e.to.index

-- some targets of the edges that P holds of were marked, where they were not, and nothing else
pub record MarkedSome (P : Edge → Type 0) (old new : List (Option Edge)) : Type 0 where
  pub kept : (k : ℕ) (e : Edge) → Has old k e → Has new k e
  pub fresh : (k : ℕ) (e : Edge) → Has new k e → Has old k e ⊎ (P e × (e.to.index ≡ k))

-- the edge is one of these, from there
abbrev pub IsFrom : Handle → List Edge → Edge → Type 0
IsFrom from edges e = (n : ℕ) × (slice_get edges n ≡ Some e) × (e.from ≡ from)

-- the place is the order's end, or one of these edges leads from there to the member at it
abbrev pub IsTargetOrEnd : List Handle → Handle → List Edge → ℕ → Type 0
IsTargetOrEnd order from edges p = (p ≡ length order)
    ⊎ ((e : Edge) × IsFrom from edges e × (slice_get order p ≡ Some e.to))

-- the edge has one of these numbers
abbrev pub IsListed : List Edge → List ℕ → Edge → Type 0
IsListed edges listed e = (j n : ℕ) × (slice_get listed j ≡ Some n) × (slice_get edges n ≡ Some e)

-- each number is an edge's, whose target has a place among the marks
abbrev pub AreTargets : List Edge → ℕ → List ℕ → Type 0
AreTargets edges places listed =
    (j n : ℕ) → slice_get listed j ≡ Some n
    → (e : Edge) × (slice_get edges n ≡ Some e) × (e.to.index < places)

-- no member of the order with a mark stands in front of this place
abbrev pub BeginsAt : ℕ → List Handle → List (Option Edge) → Type 0
BeginsAt first order marks = (p : ℕ) (h : Handle) → slice_get order p ≡ Some h
    → IsMarked marks h.index → first ≤ p

-- each mark is that of one of these nodes
abbrev pub AreAmong : List Handle → List (Option Edge) → Type 0
AreAmong members marks = (k : ℕ) (e : Edge) → Has marks k e
    → (h : Handle) × Contains members h × (h.index ≡ k)

-- the marks went on along the edges as far as they lead
pub record Spread (edges : List Edge) (old new : List (Option Edge)) : Type 0 where
  pub kept : (k : ℕ) (e : Edge) → Has old k e → Has new k e
  pub fresh : (k : ℕ) (e : Edge) → Has new k e
      → Has old k e
      ⊎ ((e.to.index ≡ k) × IsMarked new e.from.index × ((n : ℕ) × (slice_get edges n ≡ Some e)))
  pub closed : (n : ℕ) (e : Edge) → slice_get edges n ≡ Some e → IsMarked new e.from.index
      → IsMarked new e.to.index

-- a finished search from h, over the edges and those that are offered with h
pub record Searched (generation : ℕ) (order : List Handle) (edges given : List Edge) (h : Handle)
    (marks : List (Option Edge)) : Type 0 where
  pub forward : IsForward generation order edges
  pub window : h.generation ≡ generation
  pub fresh : (p : ℕ) → slice_get order p ≡ Some h → ⊥
  pub offered : (n : ℕ) (e : Edge) → slice_get given n ≡ Some e → IsOffered order h e
  pub known : (k : ℕ) (e : Edge) → Has marks k e
      → (e.to.index ≡ k)
      × (IsFrom h given e
      ⊎ (IsMarked marks e.from.index × ((n : ℕ) × (slice_get edges n ≡ Some e))))
  pub first : (e : Edge) → IsFrom h given e → IsMarked marks e.to.index
  pub closed : (n : ℕ) (e : Edge) → slice_get edges n ≡ Some e → IsMarked marks e.from.index
      → IsMarked marks e.to.index

-- no offered edge leads back from a marked node
abbrev pub IsOpen : List Edge → Handle → List (Option Edge) → Type 0
IsOpen given h marks = (n : ℕ) (e : Edge) → slice_get given n ≡ Some e → e.to ≡ h
    → IsMarked marks e.from.index → ⊥

-- each mark is an edge to its node, from h or from a node with a mark that stands earlier in the
-- order
pub record IsTraced (order : List Handle) (h : Handle) (marks : List (Option Edge)) : Type 0 where
  pub window : (p : ℕ) (x : Handle) → slice_get order p ≡ Some x → x.generation ≡ h.generation
  pub apart : (p : ℕ) → slice_get order p ≡ Some h → ⊥
  pub once : (p q : ℕ) (x : Handle) → slice_get order p ≡ Some x → slice_get order q ≡ Some x
      → p ≡ q
  pub within : (p : ℕ) (x : Handle) → slice_get order p ≡ Some x → x.index < length marks
  pub target : (k : ℕ) (e : Edge) → Has marks k e → e.to.index ≡ k
  pub source : (k : ℕ) (e : Edge) → Has marks k e
      → ((e.from ≡ h) × ((q : ℕ) × (slice_get order q ≡ Some e.to)))
      ⊎ (IsMarked marks e.from.index × StandsBefore order e.from e.to)

-- an edge back to h, from a member with a mark
abbrev pub Closes : List Handle → Handle → List (Option Edge) → Edge → Type 0
Closes order h marks e = (e.to ≡ h) × IsMarked marks e.from.index × Contains order e.from

-- a walk from h back to it, over at least one more node; these are members of the order, and no two
-- are the same
pub record Circles (order : List Handle) (h : Handle) (walk : List Edge) : Type 0 where
  pub leads : Links h walk h
  pub long : 2 ≤ length walk
  pub admitted : (n : ℕ) (e : Edge) → slice_get walk (suc n) ≡ Some e → Contains order e.from
  pub once : (p q : ℕ) (e f : Edge) → p < q → slice_get walk p ≡ Some e → slice_get walk q ≡ Some f
      → e.from ≡ f.from → ⊥

-- each edge of the walk is this one or a mark
abbrev pub AreMarks : List (Option Edge) → Edge → List Edge → Type 0
AreMarks marks last walk = (n : ℕ) (e : Edge) → slice_get walk n ≡ Some e
    → (e ≡ last) ⊎ ((k : ℕ) × Has marks k e)

-- what is always true of a graph between two admissions: its parts fit together, its rows cover its
-- edges, and no node has a mark
pub record IsAtRest (dag : Dag) (marks : List (Option Edge)) : Type 0 where
  pub sound : IsSound dag
  pub rows : RowsCover dag.rows.items dag.edges.items
  pub bare : marks ≡ no_marks (length dag.nodes.items)
