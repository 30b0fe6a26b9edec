-- The pairs of touches that conflict, and the conflicts of transactions, by graph.
use Rattle.std.specs.Prelude.{◌≡◌, ℕ, ◌<◌, List, length, take, Some, slice_get, All, Contains}
use Rattle.sgt_history.specs.declared.named.Conflict.{Conflict}
use Rattle.sgt_history.specs.declared.named.Graph.{Graph}
use Rattle.sgt_history.specs.declared.named.Graph.TheVariants.{WriteWrite, WithReads, Whole}
use Rattle.sgt_history.specs.Transaction.{Transaction}
use Rattle.sgt_history.specs.Conflicts.{IsAmong, ConflictIn}
use Rattle.sgt_history_faults.specs.declared.touch.Touch.{Touch}
use Rattle.sgt_graph.specs.declared.edge.Edge.{Edge}
use Rattle.sgt_graph.specs.Graph.{JoinsNodes}
use Rattle.sgt_history_conflicts.specs.declared.parts.Parts.{Parts}
use Rattle.sgt_history_conflicts.specs.Pairs.{IsPair}

-- the edges of a graph
abbrev pub part_of : Parts → Graph → List Edge
part_of p WriteWrite = take p.write_write p.edges.items
part_of p WithReads = take p.with_reads p.edges.items
part_of p Whole = p.edges.items

-- they are the pairs of the graph's conflicts
pub record ArePairsOf (touches : List Touch) (g : Graph) (part : List Edge) : Type 0 where
  pub sound : (e : Edge) → Contains part e → (kind : Conflict) × IsAmong g kind × IsPair touches kind e.from e.to
  pub all : (kind : Conflict) (i k : ℕ) → IsAmong g kind → IsPair touches kind i k
      → Contains part (record { from = i; to = k })

abbrev pub HasPairs : List Touch → Parts → Type 0
HasPairs touches p = (g : Graph) → ArePairsOf touches g (part_of p g)

-- they are the graph's conflicts
pub record AreEdgesOf (h : List (Transaction ℕ ℕ)) (g : Graph) (part : List Edge) : Type 0 where
  pub sound : (e : Edge) → Contains part e → ConflictIn h g e.from e.to
  pub all : (from to : ℕ) → ConflictIn h g from to → Contains part (record { from = from; to = to })
  pub nodes : All (JoinsNodes (length h)) part

abbrev pub HasEdges : List (Transaction ℕ ℕ) → Parts → Type 0
HasEdges h p = (g : Graph) → AreEdgesOf h g (part_of p g)

-- in place of two touches stand their lines
pub record IsLined (touches : List Touch) (old new : Edge) : Type 0 where
  pub a : Touch
  pub b : Touch
  pub first : slice_get touches old.from ≡ Some a
  pub second : slice_get touches old.to ≡ Some b
  pub is : new ≡ record { from = a.line; to = b.line }

pub record AreLined (touches : List Touch) (old new : List Edge) : Type 0 where
  pub size : length new ≡ length old
  pub each : (k : ℕ) (p q : Edge) → slice_get old k ≡ Some p → slice_get new k ≡ Some q → IsLined touches p q

-- the pair's touches are there
abbrev pub JoinsTouches : List Touch → Edge → Type 0
JoinsTouches touches e = (e.from < length touches) × (e.to < length touches)
