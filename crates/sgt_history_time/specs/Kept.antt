-- What an order of transactions can be asked to keep besides what these read and wrote: real time, and
-- the order of lines within a session.
use Rattle.std.specs.Prelude.{◌≡◌, ℕ, ◌<◌, List, Option, Some, slice_get}
use Rattle.sgt_history_time.specs.declared.times.Times.{Times}

-- ---- which stands before which

-- the first was done before the second began
pub record IsBefore (times : List (Option Times)) (first second : ℕ) : Type 0 where
  pub a : Times
  pub b : Times
  pub first_at : slice_get times first ≡ Some (Some a)
  pub second_at : slice_get times second ≡ Some (Some b)
  pub before : a.done < b.begin

-- both are of one session, the first on an earlier line
pub record IsEarlier {S : Type 0} (sessions : List (Option S)) (first second : ℕ) : Type 0 where
  pub session : S
  pub first_at : slice_get sessions first ≡ Some (Some session)
  pub second_at : slice_get sessions second ≡ Some (Some session)
  pub earlier : first < second

-- ---- an order

-- of two lines in the order that stand in the relation the first comes before the second
abbrev pub Keeps : (ℕ → ℕ → Type 0) → List ℕ → Type 0
Keeps R order = (i j first second : ℕ) → slice_get order i ≡ Some first → slice_get order j ≡ Some second
    → R first second → i < j

-- it keeps real time: T stands before U where T was done before U began
abbrev pub KeepsRealTime : List ℕ → List (Option Times) → Type 0
KeepsRealTime order times = Keeps (IsBefore times) order

-- it keeps sessions: T stands before U where U is on a later line of T's session
abbrev pub KeepsSessions : {S : Type 0} → List ℕ → List (Option S) → Type 0
KeepsSessions order sessions = Keeps (IsEarlier sessions) order
