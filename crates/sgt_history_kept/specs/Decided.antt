-- What is decided of a history without faults, where orders are to keep something.
use Rattle.std.specs.Prelude.{◌≡◌, ◌⊎◌, ℕ, ◌<◌, List, [], length, Option, Some, slice_get, Contains}
use Rattle.sgt_history.specs.declared.named.Graph.TheVariants.{Whole}
use Rattle.sgt_history.specs.Transaction.{Transaction, ArePositive}
use Rattle.sgt_history.specs.Serial.{StandOnce}
use Rattle.sgt_history.specs.Conflicts.{Precedes}
use Rattle.sgt_history.specs.Flaws.{IsFaultless}
use Rattle.sgt_history_conflicts.specs.Edges.{AreEdgesOf}
use Rattle.sgt_graph.specs.declared.edge.Edge.{Edge}
use Rattle.sgt_graph.specs.Graph.{Goes, JoinsNodes}
use Rattle.sgt_history_kept.specs.declared.asked.Asked.{Asked}
use Rattle.sgt_history_kept.specs.declared.deciding.Kept.{Kept}
use Rattle.sgt_history_kept.specs.declared.deciding.Kept.TheVariants.{Serial, Cyclic}
use Rattle.sgt_history_kept.specs.FirstCycle.{IsFirstCycleOf}
use Rattle.sgt_history_kept.specs.Least.{IsLeastKeeping}
use Rattle.sgt_history_kept.specs.Sooner.{IsCycleKeeping}
use Rattle.sgt_history_time.specs.Kept.{IsBefore, IsEarlier}
use Rattle.sgt_history_time.specs.Serializable.{AreOfCommitted, ServesKeeping}
use Rattle.sgt_history_time.specs.Steps.{StandsBefore}
use Rattle.sgt_history_verdict.specs.Verdict.{committed_in}

-- the first is asked to stand before the second
abbrev pub IsAskedBefore : Asked → (first second : ℕ) → Type 0
IsAskedBefore a first second = IsEarlier a.sessions.items first second ⊎ IsBefore a.times.items first second

-- the history has so many lines, no fault, and these conflicts; what is asked is of its committed transactions
pub record IsKeptFrom (h : List (Transaction ℕ ℕ)) (lines : ℕ) (edges : List Edge) (a : Asked) : Type 0 where
  pub size : length h ≡ lines
  pub positive : ArePositive h
  pub faultless : IsFaultless h
  pub conflicts : AreEdgesOf h Whole edges
  pub timed : AreOfCommitted h a.times.items
  pub sessioned : AreOfCommitted h a.sessions.items

-- all lines, each once, in an order in which each step goes forward
pub record GoesForward (h : List (Transaction ℕ ℕ)) (a : Asked) (order : List ℕ) : Type 0 where
  pub all : (line : ℕ) → line < length h → Contains order line
  pub once : StandOnce order
  pub forward : (first second : ℕ) → StandsBefore h a.times.items a.sessions.items first second
      → Precedes order first second

-- the order serves and keeps what is asked, and has the least line first of those that may stand behind those before
pub record IsSerialKeeping (h : List (Transaction ℕ ℕ)) (a : Asked) (order : List ℕ) : Type 0 where
  pub keeps : ServesKeeping h a.times.items a.sessions.items order
  pub least : IsLeastKeeping h a.times.items a.sessions.items order

abbrev pub IsKept : List (Transaction ℕ ℕ) → Asked → Kept → Type 0
IsKept h a (Serial order) = IsSerialKeeping h a (committed_in h order.items)
IsKept h a (Cyclic cycle) = IsCycleKeeping h a.times.items a.sessions.items cycle.items

-- the same, where all that is asked for counts alike
abbrev pub IsFound : List (Transaction ℕ ℕ) → Asked → Kept → Type 0
IsFound h a (Serial order) = IsSerialKeeping h a (committed_in h order.items)
IsFound h a (Cyclic cycle) = IsFirstCycleOf (StandsBefore h a.times.items a.sessions.items) cycle.items

-- of what is asked the sessions, and no times
pub record IsAskedAlone (asked alone : Asked) : Type 0 where
  pub times_are : alone.times.items ≡ []
  pub sessions_are : alone.sessions.items ≡ asked.sessions.items

abbrev pub IsSerial : Kept → Type 0
IsSerial (Serial order) = Unit {0}
IsSerial (Cyclic cycle) = ⊥

-- ---- some steps

-- it is a conflict between two of so many lines, or is asked for
pub record IsStepAmong (lines : ℕ) (conflicts : List Edge) (a : Asked) (step : Edge) : Type 0 where
  pub joins : JoinsNodes lines step
  pub is : Contains conflicts step ⊎ IsAskedBefore a step.from step.to

-- ---- all pairs

-- behind the edges before stand some of this relation, and all
pub record Adds (R : ℕ → ℕ → Type 0) (old new : List Edge) : Type 0 where
  pub kept : (e : Edge) → Contains old e → Contains new e
  pub sound : (e : Edge) → Contains new e → Contains old e ⊎ R e.from e.to
  pub all : (first second : ℕ) → R first second → Contains new (record { from = first; to = second })

-- they are asked for, from the line to one below a limit
pub record IsInRow (a : Asked) (from limit : ℕ) (first second : ℕ) : Type 0 where
  pub is : first ≡ from
  pub below : second < limit
  pub asked : IsAskedBefore a first second

-- from a line below one limit to one below another
pub record IsInRows (a : Asked) (above limit : ℕ) (first second : ℕ) : Type 0 where
  pub first_below : first < above
  pub second_below : second < limit
  pub asked : IsAskedBefore a first second

-- ---- a cycle

-- what is noted of a line is an edge from it
abbrev pub AreJoined : List Edge → List (Option ℕ) → Type 0
AreJoined edges joined = (from to : ℕ) → slice_get joined from ≡ Some (Some to) → Goes edges from to
