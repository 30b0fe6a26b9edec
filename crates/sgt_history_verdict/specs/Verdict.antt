-- What a history is decided to be.
use Rattle.std.specs.Prelude.{◌≡◌, ℕ, ◌≤◌, if◌then◌else◌, List, [], ◌∷◌, take, Option, None, Some, slice_get, Contains}
use Rattle.sgt_history.specs.declared.named.Graph.{Graph}
use Rattle.sgt_history.specs.declared.named.Graph.TheVariants.{WriteWrite, WithReads, Whole}
use Rattle.sgt_history.specs.Transaction.{Transaction}
use Rattle.sgt_history.specs.Serial.{IsCommitted, Serves}
use Rattle.sgt_history.specs.Conflicts.{ConflictIn, IsCycle, HasCycle}
use Rattle.sgt_history.specs.Flaws.{IsFirstFault}
use Rattle.sgt_history_conflicts.specs.Edges.{HasPairs}
use Rattle.sgt_history_faults.specs.Judged.{IsFaultlessBy}
use Rattle.sgt_graph.specs.First.{IsShownFirst}
use Rattle.sgt_history_verdict.specs.declared.cyclic.Cyclic.{Cyclic}
use Rattle.sgt_history_verdict.specs.declared.deciding.Verdict.{Verdict}
use Rattle.sgt_history_verdict.specs.declared.deciding.Verdict.TheVariants as verdict

-- ---- an order

-- the line, if its transaction commits, before these
abbrev pub with_committed : Option (Transaction ℕ ℕ) → ℕ → List ℕ → List ℕ
with_committed None line lines = lines
with_committed (Some t) line lines = if t.commits then line ∷ lines else lines

-- those of the lines whose transactions commit
abbrev pub committed_in : List (Transaction ℕ ℕ) → List ℕ → List ℕ
committed_in h [] = []
committed_in h (line ∷ lines) = with_committed (slice_get h line) line (committed_in h lines)

-- the line may stand behind those written: it commits, isn't one of them, and each that has a conflict
-- with it is
pub record MayFollow {I V : Type 0} (h : List (Transaction I V)) (written : List ℕ) (line : ℕ) : Type 0 where
  pub t : Transaction I V
  pub committed : IsCommitted h line t
  pub left : Contains written line → ⊥
  pub behind : (from : ℕ) → ConflictIn h Whole from line → Contains written from

-- each is the least that may stand behind those before it
abbrev pub IsLeastFirst : {I V : Type 0} → List (Transaction I V) → List ℕ → Type 0
IsLeastFirst h order = (place line other : ℕ) → slice_get order place ≡ Some line
    → MayFollow h (take place order) other → line ≤ other

-- the order serves, and has the least line first of those that may stand behind those before
pub record IsSerialBy (h : List (Transaction ℕ ℕ)) (order : List ℕ) : Type 0 where
  pub serves : Serves h (committed_in h order)
  pub least : IsLeastFirst h (committed_in h order)

-- ---- a cycle

-- the first graph has less conflicts than the second
abbrev pub IsBelow : Graph → Graph → Type 0
IsBelow WriteWrite WriteWrite = ⊥
IsBelow WriteWrite WithReads = Unit {0}
IsBelow WriteWrite Whole = Unit {0}
IsBelow WithReads WriteWrite = ⊥
IsBelow WithReads WithReads = ⊥
IsBelow WithReads Whole = Unit {0}
IsBelow Whole g = ⊥

-- the graph has a cycle, and none with less conflicts has one
pub record IsLeastGraph (h : List (Transaction ℕ ℕ)) (g : Graph) : Type 0 where
  pub has : HasCycle h g
  pub least : (less : Graph) → IsBelow less g → HasCycle h less → ⊥

-- it is a cycle of the graph, the first of all: of the least line that lies on one the shortest, of
-- several the one whose lines are, from it on, the least
pub record IsFirstOf (h : List (Transaction ℕ ℕ)) (g : Graph) (cycle : List ℕ) : Type 0 where
  pub is : IsCycle (ConflictIn h g) cycle
  pub first : (other : List ℕ) → IsCycle (ConflictIn h g) other → IsShownFirst cycle other

pub record IsCyclic (h : List (Transaction ℕ ℕ)) (c : Cyclic) : Type 0 where
  pub faultless : IsFaultlessBy h c.touches.items
  pub pairs_are : HasPairs c.touches.items c.pairs
  pub graph_is : IsLeastGraph h c.graph
  pub cycle_is : IsFirstOf h c.graph c.cycle.items

-- ---- the verdict

abbrev pub IsVerdict : List (Transaction ℕ ℕ) → Verdict → Type 0
IsVerdict h (verdict.Serial order) = IsSerialBy h order.items
IsVerdict h (verdict.Faulty f) = IsFirstFault h f.line f.flaw f.place
IsVerdict h (verdict.Cyclic c) = IsCyclic h c

-- it is that an order serves
abbrev pub IsSerial : Verdict → Type 0
IsSerial (verdict.Serial order) = Unit {0}
IsSerial (verdict.Faulty f) = ⊥
IsSerial (verdict.Cyclic c) = ⊥
