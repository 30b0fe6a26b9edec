-- What a history is made of: transactions, each of which commits or aborts, with its operations in
-- their order. Items and values are of whatever types, of which nothing counts but which are equal.
use Rattle.std.specs.Prelude.{◌≡◌, ℕ, ◌<◌, Bool, List, map, Option, Some, None, slice_get}
use Rattle.sgt_history.specs.declared.history.Kind.TheVariants.{Write}
use Rattle.sgt_history.specs.declared.history.Operation.{Operation}

pub record Transaction (I V : Type 0) : Type 0 where
  pub commits : Bool
  pub operations : List (Operation I V)

-- the operation writes a version above 0, if it writes
abbrev pub WritesPositive : {I V : Type 0} → Operation I V → Type 0
WritesPositive o = o.kind ≡ Write → 0 < o.version

-- each version that is written is above 0
abbrev pub ArePositive : {I V : Type 0} → List (Transaction I V) → Type 0
ArePositive {I} {V} h = (line place : ℕ) (t : Transaction I V) (o : Operation I V) → slice_get h line ≡ Some t
    → slice_get t.operations place ≡ Some o → WritesPositive o

-- an operation, a transaction, whose items and values have other names
abbrev pub renamed_value : {V W : Type 0} → (V → W) → Option V → Option W
renamed_value g None = None
renamed_value g (Some v) = Some (g v)

abbrev pub renamed_operation : {I J V W : Type 0} → (I → J) → (V → W) → Operation I V → Operation J W
renamed_operation f g o =
    record { version = o.version; item = f o.item; kind = o.kind; value = renamed_value g o.value }

abbrev pub renamed : {I J V W : Type 0} → (I → J) → (V → W) → Transaction I V → Transaction J W
renamed f g t = record { commits = t.commits; operations = map (renamed_operation f g) t.operations }
