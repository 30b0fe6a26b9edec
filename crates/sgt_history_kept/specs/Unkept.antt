-- The first line of an order that stands behind one which it is asked to stand before.
use Rattle.std.specs.Prelude.{◌≡◌, ◌⊎◌, ℕ, ◌+◌, ◌<◌, ◌≤◌, List, Option, None, Some, slice_get}
use Rattle.sgt_history_time.specs.declared.times.Times.{Times}
use Rattle.sgt_history_kept.specs.declared.asked.Asked.{Asked}
use Rattle.sgt_history_kept.specs.declared.passed.Reason.TheVariants.{Session, Time}
use Rattle.sgt_history_kept.specs.declared.passed.Unkept.{Unkept}
use Rattle.sgt_history_time.specs.Kept.{IsBefore, IsEarlier, KeepsRealTime, KeepsSessions}

-- the line is one of the first n of the order
abbrev pub StandsAmong : List ℕ → (n line : ℕ) → Type 0
StandsAmong order n line = (place : ℕ) × (place < n) × (slice_get order place ≡ Some line)

-- none of the first n is asked to stand before one up to it
abbrev pub KeepsTo : (ℕ → ℕ → Type 0) → List ℕ → ℕ → Type 0
KeepsTo R order n = (place line other : ℕ) → place < n → slice_get order place ≡ Some line
    → StandsAmong order (place + 1) other
    → R line other → ⊥

-- the other is of its session, on the greatest line of those up to it that are
pub record PassesInSession (sessions : List (Option ℕ)) (order : List ℕ) (u : Unkept) : Type 0 where
  pub session : ℕ
  pub reason_is : u.reason ≡ Session session
  pub own : slice_get sessions u.line ≡ Some (Some session)
  pub of_other : slice_get sessions u.other ≡ Some (Some session)
  pub earlier : u.line < u.other
  pub among : StandsAmong order (u.place + 1) u.other
  pub greatest : (x : ℕ) → StandsAmong order (u.place + 1) x → IsEarlier sessions u.line x → x ≤ u.other

-- one that began then isn't later than the other, of which the line is told first where they began together
abbrev pub IsNoLater : (line begin other latest : ℕ) → Type 0
IsNoLater line begin other latest = (begin < latest) ⊎ ((begin ≡ latest) × (other ≤ line))

-- it was done before the other began, which of those up to it began last, of several the one on the least line
pub record PassesInTime (times : List (Option Times)) (order : List ℕ) (u : Unkept) : Type 0 where
  pub ran : Times
  pub other_ran : Times
  pub reason_is : u.reason ≡ Time ran.done other_ran.begin
  pub own : slice_get times u.line ≡ Some (Some ran)
  pub of_other : slice_get times u.other ≡ Some (Some other_ran)
  pub before : ran.done < other_ran.begin
  pub among : StandsAmong order (u.place + 1) u.other
  pub greatest : (x : ℕ) (x_ran : Times) → StandsAmong order (u.place + 1) x → slice_get times x ≡ Some (Some x_ran)
      → IsNoLater x x_ran.begin u.other other_ran.begin

-- the line at the place is asked to stand before one up to it, and none before it is; sessions are told before time
pub record IsFirstUnkept (order : List ℕ) (a : Asked) (u : Unkept) : Type 0 where
  pub at : slice_get order u.place ≡ Some u.line
  pub in_time : KeepsTo (IsBefore a.times.items) order u.place
  pub in_sessions : KeepsTo (IsEarlier a.sessions.items) order u.place
  pub passes : PassesInSession a.sessions.items order u
      ⊎ (((x : ℕ) → StandsAmong order (u.place + 1) x → IsEarlier a.sessions.items u.line x → ⊥)
      × PassesInTime a.times.items order u)

abbrev pub IsUnkept : List ℕ → Asked → Option Unkept → Type 0
IsUnkept order a None = KeepsRealTime order a.times.items × KeepsSessions order a.sessions.items
IsUnkept order a (Some u) = IsFirstUnkept order a u
