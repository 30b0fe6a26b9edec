-- Strict and session serializability.
use Rattle.std.specs.Prelude.{◌≡◌, ℕ, List, Option, Some, slice_get}
use Rattle.sgt_history.specs.Transaction.{Transaction}
use Rattle.sgt_history.specs.Serial.{IsCommitted, Serves}
use Rattle.sgt_history_time.specs.declared.times.Times.{Times}
use Rattle.sgt_history_time.specs.Kept.{KeepsRealTime, KeepsSessions}

-- the order serves, and keeps both. Of what isn't asked for no line has an entry, and all orders keep it
pub record ServesKeeping {I V S : Type 0} (h : List (Transaction I V)) (times : List (Option Times))
    (sessions : List (Option S)) (order : List ℕ) : Type 0 where
  pub serves : Serves h order
  pub in_time : KeepsRealTime order times
  pub in_sessions : KeepsSessions order sessions

-- strict serializability where times are given, session serializability where sessions are
abbrev pub IsSerializableKeeping : {I V S : Type 0} → List (Transaction I V) → List (Option Times) → List (Option S)
    → Type 0
IsSerializableKeeping h times sessions = (order : List ℕ) × ServesKeeping h times sessions order

-- only lines of committed transactions have entries
abbrev pub AreOfCommitted : {I V E : Type 0} → List (Transaction I V) → List (Option E) → Type 0
AreOfCommitted {I} {V} {E} h entries = (line : ℕ) (entry : E) → slice_get entries line ≡ Some (Some entry)
    → (t : Transaction I V) × IsCommitted h line t
