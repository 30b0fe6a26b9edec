-- When a history is serializable: its committed transactions, run alone one after another in some
-- order, do what they did.
use Rattle.std.specs.Prelude.{◌≡◌, ◌⊎◌, ℕ, suc, ◌<◌, ◌≤◌, true, List, [], ◌∷◌, ◌++◌, Option, Some, None, slice_get, Contains}
use Rattle.sgt_history.specs.declared.history.Kind.TheVariants.{Read, Write}
use Rattle.sgt_history.specs.declared.history.Operation.{Operation}
use Rattle.sgt_history.specs.Transaction.{Transaction}

-- ---- an order of the committed transactions

-- a line has a committed transaction; lines are counted from 0
abbrev pub IsCommitted : {I V : Type 0} → List (Transaction I V) → ℕ → Transaction I V → Type 0
IsCommitted h line t = (slice_get h line ≡ Some t) × (t.commits ≡ true)

-- nothing stands at two places of the list
abbrev pub StandOnce : {A : Type 0} → List A → Type 0
StandOnce {A} xs = (i j : ℕ) (x : A) → slice_get xs i ≡ Some x → slice_get xs j ≡ Some x → i ≡ j

-- the lines of all committed transactions, each once
pub record IsOrder {I V : Type 0} (h : List (Transaction I V)) (order : List ℕ) : Type 0 where
  pub committed : (line : ℕ) → Contains order line → (t : Transaction I V) × IsCommitted h line t
  pub all : (line : ℕ) (t : Transaction I V) → IsCommitted h line t → Contains order line
  pub once : StandOnce order

-- the operations of a line's transaction
abbrev pub operations_in : {I V : Type 0} → Option (Transaction I V) → List (Operation I V)
operations_in None = []
operations_in (Some t) = t.operations

-- what is done where these lines' transactions run one after another
abbrev pub run_of : {I V : Type 0} → List (Transaction I V) → List ℕ → List (Operation I V)
run_of h [] = []
run_of h (line ∷ lines) = operations_in (slice_get h line) ++ run_of h lines

-- ---- what runs right

-- the operation writes the item
pub record IsWriteOf {I V : Type 0} (o : Operation I V) (x : I) : Type 0 where
  pub write : o.kind ≡ Write
  pub item : o.item ≡ x

-- none of the operations from the first place on, before the second, writes the item
abbrev pub NoneWrites : {I V : Type 0} → List (Operation I V) → (first second : ℕ) → I → Type 0
NoneWrites {I} {V} run first second x = (place : ℕ) (o : Operation I V) → first ≤ place → place < second
    → slice_get run place ≡ Some o → IsWriteOf o x → ⊥

-- before the place, the last operation that writes the item writes this version
pub record IsLastWritten {I V : Type 0} (run : List (Operation I V)) (place : ℕ) (x : I) (version : ℕ) : Type 0 where
  pub last : ℕ
  pub o : Operation I V
  pub before : last < place
  pub there : slice_get run last ≡ Some o
  pub writes : IsWriteOf o x
  pub version_is : o.version ≡ version
  pub none : NoneWrites run (suc last) place x

-- the version that the item has at the place: the last one written before it, or 0 where none is
abbrev pub Has : {I V : Type 0} → List (Operation I V) → ℕ → I → ℕ → Type 0
Has run place x version = IsLastWritten run place x version ⊎ ((version ≡ 0) × NoneWrites run 0 place x)

-- a read there gives the version that its item has (so an own one what its transaction wrote last),
-- a write a greater one
pub record Follows {I V : Type 0} (run : List (Operation I V)) (place : ℕ) (o : Operation I V) : Type 0 where
  pub read : o.kind ≡ Read → Has run place o.item o.version
  pub write : o.kind ≡ Write → (version : ℕ) × Has run place o.item version × (version < o.version)

-- so does each operation of the run
abbrev pub RunsRight : {I V : Type 0} → List (Operation I V) → Type 0
RunsRight {I} {V} run = (place : ℕ) (o : Operation I V) → slice_get run place ≡ Some o → Follows run place o

-- all values that are given for one version of an item are equal
abbrev pub ValuesAgree : {I V : Type 0} → List (Operation I V) → Type 0
ValuesAgree {I} {V} run = (o p : Operation I V) → Contains run o → Contains run p → o.item ≡ p.item
    → o.version ≡ p.version → (v w : V) → o.value ≡ Some v → p.value ≡ Some w → v ≡ w

-- ---- serializable

-- the order serves: run alone one after another in it, the committed transactions do what they did
pub record Serves {I V : Type 0} (h : List (Transaction I V)) (order : List ℕ) : Type 0 where
  pub ordered : IsOrder h order
  pub right : RunsRight (run_of h order)
  pub values : ValuesAgree (run_of h order)

abbrev pub IsSerializable : {I V : Type 0} → List (Transaction I V) → Type 0
IsSerializable h = (order : List ℕ) × Serves h order

-- ---- other names

-- the operation stands in some line's transaction
abbrev pub IsIn : {I V : Type 0} → List (Transaction I V) → Operation I V → Type 0
IsIn {I} {V} h o = (line : ℕ) × (t : Transaction I V) × (slice_get h line ≡ Some t) × Contains t.operations o

-- the names keep the items of the history apart, and its values
pub record KeepApart {I J V W : Type 0} (f : I → J) (g : V → W) (h : List (Transaction I V)) : Type 0 where
  pub items : (o p : Operation I V) → IsIn h o → IsIn h p → f o.item ≡ f p.item → o.item ≡ p.item
  pub values : (o p : Operation I V) (v w : V) → IsIn h o → IsIn h p → o.value ≡ Some v → p.value ≡ Some w
      → g v ≡ g w → v ≡ w
