-- Which cycle is told: of conflicts and sessions alone the first, sooner than any with real time.
use Rattle.std.specs.Prelude.{◌⊎◌, ℕ, List, [], Option}
use Rattle.sgt_history.specs.Conflicts.{IsCycle}
use Rattle.sgt_history.specs.Transaction.{Transaction}
use Rattle.sgt_history_kept.specs.FirstCycle.{IsFirstCycleOf}
use Rattle.sgt_history_time.specs.declared.times.Times.{Times}
use Rattle.sgt_history_time.specs.Steps.{StandsBefore}

-- conflicts and sessions alone have no cycle
abbrev pub NoneInSessions : {I V S : Type 0} → List (Transaction I V) → List (Option S) → Type 0
NoneInSessions h sessions = (other : List ℕ) → IsCycle (StandsBefore h [] sessions) other → ⊥

-- it is the first cycle of conflicts and sessions alone; or these have none, and it is the first with real time too
abbrev pub IsFirstKept : {I V S : Type 0} → List (Transaction I V) → List (Option Times) → List (Option S) → List ℕ
    → Type 0
IsFirstKept h times sessions cycle = IsFirstCycleOf (StandsBefore h [] sessions) cycle
    ⊎ (NoneInSessions h sessions × IsFirstCycleOf (StandsBefore h times sessions) cycle)

-- it is a cycle of what stands before what, and the one that is told
pub record IsCycleKeeping {I V S : Type 0} (h : List (Transaction I V)) (times : List (Option Times))
    (sessions : List (Option S)) (cycle : List ℕ) : Type 0 where
  pub is : IsCycle (StandsBefore h times sessions) cycle
  pub first : IsFirstKept h times sessions cycle
