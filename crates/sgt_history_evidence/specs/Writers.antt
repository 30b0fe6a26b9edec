-- The lines that write a version of an item.
use Rattle.std.specs.Prelude.{◌≡◌, ℕ, ◌<◌, ◌≤◌, Bool, List, Option, Some, None, slice_get}
use Rattle.sgt_history.specs.declared.history.Operation.{Operation}
use Rattle.sgt_history.specs.Transaction.{Transaction}
use Rattle.sgt_history.specs.Serial.{IsWriteOf}

-- one of the operations, the first so many, writes this version of the item
pub record WritesUpTo {I V : Type 0} (operations : List (Operation I V)) (x : I) (n version : ℕ) : Type 0 where
  pub place : ℕ
  pub o : Operation I V
  pub before : place < n
  pub there : slice_get operations place ≡ Some o
  pub writes : IsWriteOf o x
  pub version_is : o.version ≡ version

-- one of all of them
pub record WritesIn {I V : Type 0} (operations : List (Operation I V)) (x : I) (version : ℕ) : Type 0 where
  pub place : ℕ
  pub o : Operation I V
  pub there : slice_get operations place ≡ Some o
  pub writes : IsWriteOf o x
  pub version_is : o.version ≡ version

-- the line's transaction commits, or doesn't, and writes this version of the item
pub record WritesAs {I V : Type 0} (commits : Bool) (h : List (Transaction I V)) (x : I) (version line : ℕ) : Type 0
  where
    pub t : Transaction I V
    pub in_line : slice_get h line ≡ Some t
    pub commits_is : t.commits ≡ commits
    pub is : WritesIn t.operations x version

-- and it is the first such line
pub record IsFirstAs {I V : Type 0} (commits : Bool) (h : List (Transaction I V)) (x : I) (version line : ℕ) : Type 0
  where
    pub writes : WritesAs commits h x version line
    pub first : (other : ℕ) → WritesAs commits h x version other → line ≤ other

-- of the versions of the item that the operations write this is the least that is greater
pub record IsLeastGreater {I V : Type 0} (operations : List (Operation I V)) (x : I) (version greater : ℕ) : Type 0
  where
    pub writes : WritesIn operations x greater
    pub above : version < greater
    pub least : (other : ℕ) → WritesIn operations x other → version < other → greater ≤ other

-- the same of the first so many of them, if there is one
abbrev pub TellsLeast : {I V : Type 0} → List (Operation I V) → I → (version n : ℕ) → Option ℕ → Type 0
TellsLeast operations x version n None = (other : ℕ) → WritesUpTo operations x n other → version < other → ⊥
TellsLeast operations x version n (Some greater) = WritesUpTo operations x n greater × (version < greater)
    × ((other : ℕ) → WritesUpTo operations x n other → version < other → greater ≤ other)
