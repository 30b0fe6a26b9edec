-- What the checks of an order go by.
use Rattle.std.specs.Prelude.{◌≡◌, ◌⊎◌, ℕ, ◌<◌, ◌≤◌, List, length, Option, Some, slice_get}
use Rattle.sgt_history_time.specs.declared.times.Times.{Times}

-- ---- real time

-- the line began at the latest begin there is then, and wasn't done before it
pub record Passes (times : List (Option Times)) (latest line next : ℕ) : Type 0 where
  pub rises : latest ≤ next
  pub own : (x : Times) → slice_get times line ≡ Some (Some x) → (x.begin ≤ next) × (next ≤ x.done)
  pub met : (next ≡ latest) ⊎ ((x : Times) × (slice_get times line ≡ Some (Some x)) × (next ≡ x.begin))

-- it was done before one began that doesn't stand behind it
pub record Lags (times : List (Option Times)) (latest line : ℕ) : Type 0 where
  pub x : Times
  pub at : slice_get times line ≡ Some (Some x)
  pub late : (x.done < latest) ⊎ (x.done < x.begin)

-- ---- sessions

-- numbers of sessions are below this
abbrev pub AreBelow : ℕ → List (Option ℕ) → Type 0
AreBelow count sessions = (line session : ℕ) → slice_get sessions line ≡ Some (Some session) → session < count

-- of the line's session an earlier line or none came last
pub record IsBehind (sessions last : List (Option ℕ)) (line : ℕ) : Type 0 where
  pub behind : (session before : ℕ) → slice_get sessions line ≡ Some (Some session)
      → slice_get last session ≡ Some (Some before)
      → before ≤ line

pub record IsAhead (sessions last : List (Option ℕ)) (line : ℕ) : Type 0 where
  pub session : ℕ
  pub before : ℕ
  pub at : slice_get sessions line ≡ Some (Some session)
  pub last_at : slice_get last session ≡ Some (Some before)
  pub later : line < before

-- the line came last of its session now, and of each other one what did before
pub record IsNoted (sessions old : List (Option ℕ)) (line : ℕ) (new : List (Option ℕ)) : Type 0 where
  pub size : length new ≡ length old
  pub own : (session : ℕ) → slice_get sessions line ≡ Some (Some session) → slice_get new session ≡ Some (Some line)
  pub others : (session : ℕ) → (slice_get sessions line ≡ Some (Some session) → ⊥)
      → slice_get new session ≡ slice_get old session
