-- What is known of the lines of an order that were looked at.
use Rattle.std.specs.Prelude.{◌≡◌, ◌⊎◌, ◌↔◌, ℕ, ◌<◌, ◌≤◌, List, Option, Some, slice_get}
use Rattle.sgt_history_time.specs.declared.times.Times.{Times}
use Rattle.sgt_history_kept.specs.declared.passed.Began.{Began}
use Rattle.sgt_history_kept.specs.declared.passed.Passed.{Passed}
use Rattle.sgt_history_kept.specs.declared.passed.Reason.TheVariants.{Session, Time}
use Rattle.sgt_history_kept.specs.Unkept.{IsNoLater}

-- ---- sessions

-- of the line's session an earlier line or none came last
abbrev pub ComesBehind : (sessions last : List (Option ℕ)) (line : ℕ) → Type 0
ComesBehind sessions last line = (session before : ℕ) → slice_get sessions line ≡ Some (Some session)
    → slice_get last session ≡ Some (Some before)
    → before ≤ line

-- a later one did
pub record ComesAhead (sessions last : List (Option ℕ)) (line : ℕ) (p : Passed) : Type 0 where
  pub session : ℕ
  pub reason_is : p.reason ≡ Session session
  pub own : slice_get sessions line ≡ Some (Some session)
  pub last_is : slice_get last session ≡ Some (Some p.other)
  pub earlier : line < p.other

-- the line came last of its session now, and of each other one what did before
pub record ComesLast (sessions old : List (Option ℕ)) (line : ℕ) (new : List (Option ℕ)) : Type 0 where
  pub own : (session : ℕ) → slice_get sessions line ≡ Some (Some session) → slice_get new session ≡ Some (Some line)
  pub others : (session before : ℕ) → (slice_get sessions line ≡ Some (Some session) → ⊥)
      → slice_get new session ≡ Some (Some before) ↔ slice_get old session ≡ Some (Some before)

-- ---- real time

-- the later of the two, of two that began together the one on the lesser line
pub record IsLatest (line begin : ℕ) (latest : Option Began) (next : Began) : Type 0 where
  pub own : IsNoLater line begin next.line next.begin
  pub old : (l : Began) → latest ≡ Some l → IsNoLater l.line l.begin next.line next.begin
  pub one : (latest ≡ Some next) ⊎ ((next.line ≡ line) × (next.begin ≡ begin))

-- the latest, with the line if it ran
pub record IsLatestWith (times : List (Option Times)) (latest : Option Began) (line : ℕ) (next : Option Began) : Type
    0 where
  pub own : (x : Times) → slice_get times line ≡ Some (Some x)
      → (n : Began) × (next ≡ Some n) × IsNoLater line x.begin n.line n.begin
  pub old : (l : Began) → latest ≡ Some l → (n : Began) × (next ≡ Some n) × IsNoLater l.line l.begin n.line n.begin
  pub one : (n : Began) → next ≡ Some n
      → (latest ≡ Some n) ⊎ ((x : Times) × (slice_get times line ≡ Some (Some x)) × (n.line ≡ line)
      × (n.begin ≡ x.begin))

-- the line wasn't done before the latest began
abbrev pub EndsBehind : (times : List (Option Times)) (latest : Option Began) (line : ℕ) → Type 0
EndsBehind times latest line = (x : Times) (l : Began) → slice_get times line ≡ Some (Some x) → latest ≡ Some l
    → l.begin ≤ x.done

-- it was
pub record EndsBefore (times : List (Option Times)) (latest : Option Began) (line : ℕ) (p : Passed) : Type 0 where
  pub ran : Times
  pub l : Began
  pub reason_is : p.reason ≡ Time ran.done l.begin
  pub other_is : p.other ≡ l.line
  pub own : slice_get times line ≡ Some (Some ran)
  pub latest_is : latest ≡ Some l
  pub before : ran.done < l.begin
