-- The order in which of the lines that may come next the least one does.
use Rattle.std.specs.Prelude.{◌≡◌, ℕ, ◌<◌, ◌≤◌, List, length, take, Option, Some, slice_get, Contains}
use Rattle.sgt_history.specs.Transaction.{Transaction}
use Rattle.sgt_history.specs.Serial.{IsCommitted}
use Rattle.sgt_history_kept.specs.declared.asked.Asked.{Asked}
use Rattle.sgt_history_time.specs.declared.times.Times.{Times}
use Rattle.sgt_history_time.specs.Steps.{StandsBefore}

-- ---- of transactions that commit

-- the line may stand behind those written: it commits, isn't one of them, and each that has to stand before it is
pub record MayStandBehind {I V S : Type 0} (h : List (Transaction I V)) (times : List (Option Times))
    (sessions : List (Option S)) (written : List ℕ) (line : ℕ) : Type 0 where
  pub t : Transaction I V
  pub committed : IsCommitted h line t
  pub left : Contains written line → ⊥
  pub behind : (from : ℕ) → StandsBefore h times sessions from line → Contains written from

-- each is the least that may stand behind those before it
abbrev pub IsLeastKeeping : {I V S : Type 0} → List (Transaction I V) → List (Option Times) → List (Option S) → List ℕ
    → Type 0
IsLeastKeeping h times sessions order = (place line other : ℕ) → slice_get order place ≡ Some line
    → MayStandBehind h times sessions (take place order) other → line ≤ other

-- ---- of all lines

-- the line may come behind those placed: it isn't one of them, and each that has to stand before it is
pub record MayCome (h : List (Transaction ℕ ℕ)) (a : Asked) (placed : List ℕ) (line : ℕ) : Type 0 where
  pub line_is : line < length h
  pub left : Contains placed line → ⊥
  pub behind : (from : ℕ) → StandsBefore h a.times.items a.sessions.items from line → Contains placed from

-- each is the least that may come behind those before it
abbrev pub IsLeastForward : List (Transaction ℕ ℕ) → Asked → List ℕ → Type 0
IsLeastForward h a order = (place line other : ℕ) → slice_get order place ≡ Some line
    → MayCome h a (take place order) other → line ≤ other
