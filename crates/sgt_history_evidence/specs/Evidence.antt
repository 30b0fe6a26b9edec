-- What stands behind a fault: the operations of others, or of its own transaction, that make it one.
use Rattle.std.specs.Prelude.{◌≡◌, ◌≢◌, ℕ, ◌<◌, ◌≤◌, true, false, List, Some, slice_get}
use Rattle.sgt_history.specs.declared.history.Kind.TheVariants.{Read, Write}
use Rattle.sgt_history.specs.declared.history.Operation.{Operation}
use Rattle.sgt_history.specs.declared.named.Flaw.{Flaw}
use Rattle.sgt_history.specs.declared.named.Flaw.TheVariants.{Internal, Duplicate, AbortedRead, Unwritten, IntermediateRead, Value}
use Rattle.sgt_history.specs.Transaction.{Transaction}
use Rattle.sgt_history.specs.Serial.{IsLastWritten}
use Rattle.sgt_history.specs.Flaws.{IsFuture, IsOtherValue}
use Rattle.sgt_history_evidence.specs.Values.{IsFirstGiven}
use Rattle.sgt_history_evidence.specs.Writers.{IsFirstAs, IsLeastGreater}
use Rattle.sgt_history_evidence.specs.declared.evidence.Evidence.{Evidence}
use Rattle.sgt_history_evidence.specs.declared.evidence.Evidence.TheVariants.{Nothing, Wrote, WritesLater, Writer, Surpassed, Gives}

-- its transaction wrote this version last before: an own read gives another one, a write no greater one
pub record IsAgainstOwn {I V : Type 0} (t : Transaction I V) (place : ℕ) (o : Operation I V) (version : ℕ) : Type 0
  where
    pub own : IsLastWritten t.operations place o.item version
    pub read : o.kind ≡ Read → o.version ≢ version
    pub write : o.kind ≡ Write → o.version ≤ version

-- the line is the first that commits and writes what the operation reads, and this the least greater
-- version of the item that it writes
pub record IsSurpassed {I V : Type 0} (h : List (Transaction I V)) (o : Operation I V) (by greater : ℕ) : Type 0 where
  pub first : IsFirstAs true h o.item o.version by
  pub t : Transaction I V
  pub in_line : slice_get h by ≡ Some t
  pub least : IsLeastGreater t.operations o.item o.version greater

-- the first operation that gives a value of the version stands there, and gives another one
pub record IsGivenOtherwise {I V : Type 0} (h : List (Transaction I V)) (line place : ℕ) (o : Operation I V)
    (by at : ℕ) : Type 0 where
  pub first : IsFirstGiven h o.item o.version by at
  pub other : IsOtherValue h line place o
  pub line_is : other.line_of ≡ by
  pub place_is : other.place_of ≡ at

-- it stands behind this fault of the operation
abbrev pub IsEvidence : {I V : Type 0} → List (Transaction I V) → (line place : ℕ) → Transaction I V → Operation I V
    → Flaw → Evidence → Type 0
IsEvidence h line place t o Internal (Wrote version) = IsAgainstOwn t place o version
IsEvidence h line place t o Internal WritesLater = IsFuture t place o
IsEvidence h line place t o Duplicate (Writer by) = (by < line) × IsFirstAs true h o.item o.version by
IsEvidence h line place t o AbortedRead (Writer by) = IsFirstAs false h o.item o.version by
IsEvidence h line place t o Unwritten Nothing = Unit {0}
IsEvidence h line place t o IntermediateRead (Surpassed by greater) = IsSurpassed h o by greater
IsEvidence h line place t o Value (Gives by at) = IsGivenOtherwise h line place o by at
IsEvidence h line place t o flaw evidence = ⊥
