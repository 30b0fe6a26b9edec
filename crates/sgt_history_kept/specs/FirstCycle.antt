-- The first cycle of a relation.
use Rattle.std.specs.Prelude.{ℕ, List}
use Rattle.sgt_history.specs.Conflicts.{IsCycle}
use Rattle.sgt_graph.specs.First.{IsShownFirst}

-- it is a cycle, the first of all: of the least line that lies on one the shortest, of several the one whose lines are, from
-- it on, the least
pub record IsFirstCycleOf (R : ℕ → ℕ → Type 0) (cycle : List ℕ) : Type 0 where
  pub is : IsCycle R cycle
  pub first : (other : List ℕ) → IsCycle R other → IsShownFirst cycle other
