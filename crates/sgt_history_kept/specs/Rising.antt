-- Numbers of lines that rise along steps.
use Rattle.std.specs.Prelude.{◌≡◌, ℕ, ◌-◌, ◌<◌, ◌≤◌, List, length, Option, None, Some, slice_index}
use Rattle.sgt_history_time.specs.declared.times.Times.{Times}

-- where the first line stands in the relation to the second, the number on the left of the one isn't above that on the
-- right of the other
abbrev pub Rises : (ℕ → ℕ → Type 0) → (left right : List ℕ) → Type 0
Rises R left right = (a b : ℕ) → R a b → slice_index left a ≤ slice_index right b

-- of two numbers the one that stands behind isn't below the other
abbrev pub AreRising : List ℕ → Type 0
AreRising numbers = (i j : ℕ) → i ≤ j → j < length numbers → slice_index numbers i ≤ slice_index numbers j

-- a line of the session is noted: no number falls, the session's wasn't above the right one, and isn't below the left one
pub record IsNoted (old : List ℕ) (session left right : ℕ) (new : List ℕ) : Type 0 where
  pub grows : (s : ℕ) → slice_index old s ≤ slice_index new s
  pub bound : slice_index old session ≤ right
  pub raised : left ≤ slice_index new session

-- a line that is of no session changes nothing
abbrev pub IsNotedLine : (old : List ℕ) → Option ℕ → (left right : ℕ) → (new : List ℕ) → Type 0
IsNotedLine old None left right new = new ≡ old
IsNotedLine old (Some session) left right new = IsNoted old session left right new

-- the number behind the moments up to its end isn't below the left one; that of a moment from its begin on isn't above the
-- right one
pub record StandsIn (begins most : List ℕ) (ran : Times) (left right : ℕ) : Type 0 where
  pub behind : ℕ
  pub few : behind ≤ length begins
  pub ended : 0 < behind → slice_index begins (behind - 1) ≤ ran.done
  pub left_is : behind < length most → left ≤ slice_index most behind
  pub begin : ℕ
  pub within : begin < length begins
  pub began : ran.begin ≤ slice_index begins begin
  pub right_is : slice_index most begin ≤ right
