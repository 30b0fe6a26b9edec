-- The faults of a line: what a committed transaction has that no order mends.
use Rattle.std.specs.Prelude.{◌≡◌, ◌≢◌, ◌⊎◌, ℕ, ◌<◌, ◌≤◌, false, List, Some, slice_get}
use Rattle.sgt_history.specs.declared.history.Kind.TheVariants.{Read, Write}
use Rattle.sgt_history.specs.declared.history.Operation.{Operation}
use Rattle.sgt_history.specs.declared.named.Flaw.{Flaw}
use Rattle.sgt_history.specs.declared.named.Flaw.TheVariants.{Internal, Duplicate, AbortedRead, Unwritten, IntermediateRead, Value}
use Rattle.sgt_history.specs.Transaction.{Transaction}
use Rattle.sgt_history.specs.Serial.{IsWriteOf, IsLastWritten, NoneWrites}
use Rattle.sgt_history.specs.Conflicts.{IsOperation, Writes}

-- ---- internal

-- it is an own read of another version than was written last before
pub record IsOtherOwn {I V : Type 0} (t : Transaction I V) (place : ℕ) (o : Operation I V) : Type 0 where
  pub read : o.kind ≡ Read
  pub version : ℕ
  pub own : IsLastWritten t.operations place o.item version
  pub other : o.version ≢ version

-- it writes an item again with a version that isn't greater
pub record IsNotGreater {I V : Type 0} (t : Transaction I V) (place : ℕ) (o : Operation I V) : Type 0 where
  pub write : o.kind ≡ Write
  pub version : ℕ
  pub own : IsLastWritten t.operations place o.item version
  pub most : o.version ≤ version

-- it reads, not own, a version that its transaction writes later
pub record IsFuture {I V : Type 0} (t : Transaction I V) (place : ℕ) (o : Operation I V) : Type 0 where
  pub read : o.kind ≡ Read
  pub foreign : NoneWrites t.operations 0 place o.item
  pub later : ℕ
  pub by : Operation I V
  pub there : slice_get t.operations later ≡ Some by
  pub writes : IsWriteOf by o.item
  pub version_is : by.version ≡ o.version

-- ---- of other transactions

-- the operation is a read, not own, of another version than 0
pub record IsForeign {I V : Type 0} (t : Transaction I V) (place : ℕ) (o : Operation I V) : Type 0 where
  pub read : o.kind ≡ Read
  pub foreign : NoneWrites t.operations 0 place o.item
  pub not_first : o.version ≢ 0

-- no committed transaction writes this version of the item
abbrev pub NoneCommitted : {I V : Type 0} → List (Transaction I V) → I → ℕ → Type 0
NoneCommitted h x version = (line : ℕ) → Writes h line x version → ⊥

-- an aborted one does
pub record AbortedWrites {I V : Type 0} (h : List (Transaction I V)) (line : ℕ) (x : I) (version : ℕ) : Type 0 where
  pub t : Transaction I V
  pub in_line : slice_get h line ≡ Some t
  pub aborts : t.commits ≡ false
  pub place : ℕ
  pub o : Operation I V
  pub there : slice_get t.operations place ≡ Some o
  pub writes : IsWriteOf o x
  pub version_is : o.version ≡ version

-- the line is the first with a committed transaction that writes this version
pub record IsFirstWriter {I V : Type 0} (h : List (Transaction I V)) (line : ℕ) (x : I) (version : ℕ) : Type 0 where
  pub writes : Writes h line x version
  pub first : (other : ℕ) → Writes h other x version → line ≤ other

-- an operation of a committed transaction gives another value for the same version of the item, in a
-- line before, or before in the line
pub record IsOtherValue {I V : Type 0} (h : List (Transaction I V)) (line place : ℕ) (o : Operation I V) : Type 0 where
  pub value : V
  pub given : o.value ≡ Some value
  pub line_of : ℕ
  pub place_of : ℕ
  pub t : Transaction I V
  pub other : Operation I V
  pub is : IsOperation h line_of place_of t other
  pub before : (line_of < line) ⊎ ((line_of ≡ line) × (place_of < place))
  pub item_is : other.item ≡ o.item
  pub version_is : other.version ≡ o.version
  pub value_of : V
  pub given_of : other.value ≡ Some value_of
  pub apart : value ≢ value_of

-- ---- the table

-- the operation at this place of the line's committed transaction has this fault
abbrev pub HasFlaw : {I V : Type 0} → List (Transaction I V) → (line place : ℕ) → Transaction I V → Operation I V
    → Flaw → Type 0
HasFlaw h line place t o Internal = IsOtherOwn t place o ⊎ (IsNotGreater t place o ⊎ IsFuture t place o)
HasFlaw h line place t o Duplicate = (o.kind ≡ Write) × (earlier : ℕ) × (earlier < line)
    × Writes h earlier o.item o.version
HasFlaw h line place t o AbortedRead = IsForeign t place o × NoneCommitted h o.item o.version
    × (by : ℕ) × AbortedWrites h by o.item o.version
HasFlaw h line place t o Unwritten = IsForeign t place o × NoneCommitted h o.item o.version
    × ((by : ℕ) → AbortedWrites h by o.item o.version → ⊥)
HasFlaw h line place t o IntermediateRead = IsForeign t place o
    × (by : ℕ) × IsFirstWriter h by o.item o.version × (greater : ℕ) × (o.version < greater)
    × Writes h by o.item greater
HasFlaw h line place t o Value = IsOtherValue h line place o

-- a fault of a line
pub record IsFaulty {I V : Type 0} (h : List (Transaction I V)) (line : ℕ) (flaw : Flaw) (place : ℕ) : Type 0 where
  pub t : Transaction I V
  pub o : Operation I V
  pub is : IsOperation h line place t o
  pub has : HasFlaw h line place t o flaw

-- no line has one
abbrev pub IsFaultless : {I V : Type 0} → List (Transaction I V) → Type 0
IsFaultless h = (line : ℕ) (flaw : Flaw) (place : ℕ) → IsFaulty h line flaw place → ⊥

-- ---- the first one

-- where it stands in the table
abbrev pub rank_of : Flaw → ℕ
rank_of Internal = 0
rank_of Duplicate = 1
rank_of AbortedRead = 2
rank_of Unwritten = 3
rank_of IntermediateRead = 4
rank_of Value = 5

-- it is told before the other, or is that: by its line, then by the table, then by the operation
abbrev pub IsToldFirst : (line rank place line' rank' place' : ℕ) → Type 0
IsToldFirst line rank place line' rank' place' = (line < line')
    ⊎ ((line ≡ line') × ((rank < rank') ⊎ ((rank ≡ rank') × (place ≤ place'))))

-- the first fault of all: no other is told before it
pub record IsFirstFault {I V : Type 0} (h : List (Transaction I V)) (line : ℕ) (flaw : Flaw) (place : ℕ) : Type 0 where
  pub faulty : IsFaulty h line flaw place
  pub first : (line' : ℕ) (flaw' : Flaw) (place' : ℕ) → IsFaulty h line' flaw' place'
      → IsToldFirst line (rank_of flaw) place line' (rank_of flaw') place'
