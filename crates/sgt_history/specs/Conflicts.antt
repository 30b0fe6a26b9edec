-- The chains of a history's items, the conflicts of its transactions, and cycles of them.
use Rattle.std.specs.Prelude.{◌≡◌, ◌≢◌, ℕ, ◌<◌, ◌≤◌, List, [], ◌∷◌, ◌++◌, Some, slice_get}
use Rattle.sgt_history.specs.declared.history.Kind.TheVariants.{Read}
use Rattle.sgt_history.specs.declared.history.Operation.{Operation}
use Rattle.sgt_history.specs.declared.named.Conflict.{Conflict}
use Rattle.sgt_history.specs.declared.named.Conflict.TheVariants.{WriteWrite, WriteRead, ReadWrite}
use Rattle.sgt_history.specs.declared.named.Graph.{Graph}
use Rattle.sgt_history.specs.declared.named.Graph.TheVariants as graph
use Rattle.sgt_history.specs.Transaction.{Transaction}
use Rattle.sgt_history.specs.Serial.{IsCommitted, IsWriteOf, NoneWrites}

-- the operation stands at this place of the line's transaction, which is committed
pub record IsOperation {I V : Type 0} (h : List (Transaction I V)) (line place : ℕ) (t : Transaction I V)
    (o : Operation I V) : Type 0 where
  pub committed : IsCommitted h line t
  pub there : slice_get t.operations place ≡ Some o

-- the line's transaction, which is committed, writes this version of the item
pub record Writes {I V : Type 0} (h : List (Transaction I V)) (line : ℕ) (x : I) (version : ℕ) : Type 0 where
  pub place : ℕ
  pub t : Transaction I V
  pub o : Operation I V
  pub is : IsOperation h line place t o
  pub writes : IsWriteOf o x
  pub version_is : o.version ≡ version

-- the line's transaction, which is committed, reads this version of the item, and not its own: none
-- of its operations before writes the item
pub record Reads {I V : Type 0} (h : List (Transaction I V)) (line : ℕ) (x : I) (version : ℕ) : Type 0 where
  pub place : ℕ
  pub t : Transaction I V
  pub o : Operation I V
  pub is : IsOperation h line place t o
  pub read : o.kind ≡ Read
  pub item_is : o.item ≡ x
  pub version_is : o.version ≡ version
  pub foreign : NoneWrites t.operations 0 place x

-- in the chain of the item, the versions that committed transactions wrote, the second is the next
-- above the first
pub record IsNext {I V : Type 0} (h : List (Transaction I V)) (x : I) (first second : ℕ) : Type 0 where
  pub above : first < second
  pub least : (line version : ℕ) → Writes h line x version → first < version → second ≤ version

-- two transactions have this conflict by these versions of the item
abbrev pub HaveConflict : {I V : Type 0} → List (Transaction I V) → Conflict → (from to : ℕ) → I → (v w : ℕ) → Type 0
HaveConflict h WriteWrite from to x v w = (from ≢ to) × Writes h from x v × Writes h to x w × IsNext h x v w
HaveConflict h WriteRead from to x v w = (from ≢ to) × Writes h from x v × Reads h to x w × (v ≡ w)
HaveConflict h ReadWrite from to x v w = (from ≢ to) × Reads h from x v × Writes h to x w × IsNext h x v w

-- the graph has conflicts of this kind
abbrev pub IsAmong : Graph → Conflict → Type 0
IsAmong graph.WriteWrite WriteWrite = Unit {0}
IsAmong graph.WriteWrite WriteRead = ⊥
IsAmong graph.WriteWrite ReadWrite = ⊥
IsAmong graph.WithReads WriteWrite = Unit {0}
IsAmong graph.WithReads WriteRead = Unit {0}
IsAmong graph.WithReads ReadWrite = ⊥
IsAmong graph.Whole kind = Unit {0}

-- two transactions have a conflict of the graph
pub record ConflictIn {I V : Type 0} (h : List (Transaction I V)) (g : Graph) (from to : ℕ) : Type 0 where
  pub kind : Conflict
  pub among : IsAmong g kind
  pub x : I
  pub v : ℕ
  pub w : ℕ
  pub conflict : HaveConflict h kind from to x v w

-- the first stands in the order before the second
pub record Precedes (order : List ℕ) (first second : ℕ) : Type 0 where
  pub i : ℕ
  pub j : ℕ
  pub before : i < j
  pub first_at : slice_get order i ≡ Some first
  pub second_at : slice_get order j ≡ Some second

-- each number stands in the relation to the next one, from a on
abbrev pub IsChain : (ℕ → ℕ → Type 0) → ℕ → List ℕ → Type 0
IsChain R a [] = Unit {0}
IsChain R a (b ∷ bs) = R a b × IsChain R b bs

-- and the last one to the first
abbrev pub IsCycle : (ℕ → ℕ → Type 0) → List ℕ → Type 0
IsCycle R [] = ⊥
IsCycle R (a ∷ between) = IsChain R a (between ++ a ∷ [])

-- the graph has a cycle
abbrev pub HasCycle : {I V : Type 0} → List (Transaction I V) → Graph → Type 0
HasCycle h g = (cycle : List ℕ) × IsCycle (ConflictIn h g) cycle
