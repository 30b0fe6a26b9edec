-- What operations of committed transactions give as values.
use Rattle.std.specs.Prelude.{◌≡◌, ◌≢◌, ◌⊎◌, ℕ, suc, ◌<◌, ◌≤◌, List, ◌++◌, Option, Some, slice_get, All, Contains}
use Rattle.sgt_history.specs.declared.history.Operation.{Operation}
use Rattle.sgt_history.specs.declared.named.Flaw.TheVariants.{Value}
use Rattle.sgt_history.specs.Transaction.{Transaction}
use Rattle.sgt_history.specs.Conflicts.{IsOperation}
use Rattle.sgt_history.specs.Flaws.{IsFaulty}
use Rattle.sgt_history_faults.specs.declared.fault.Fault.{Fault}
use Rattle.sgt_history_faults.specs.declared.giving.Given.{Given}
use Rattle.sgt_history_faults.specs.Noted.{Covers}

-- it is what the operation of the line gives, whose operations are these
pub record IsGivenOf (line : ℕ) (done : List (Operation ℕ ℕ)) (g : Given) : Type 0 where
  pub o : Operation ℕ ℕ
  pub line_is : g.line ≡ line
  pub there : slice_get done g.place ≡ Some o
  pub item_is : g.item ≡ o.item
  pub version_is : g.version ≡ o.version
  pub value_is : o.value ≡ Some g.value

-- something is given there
pub record IsGivenAt (given : List Given) (line place : ℕ) : Type 0 where
  pub g : Given
  pub in_it : Contains given g
  pub line_is : g.line ≡ line
  pub place_is : g.place ≡ place

-- the first n operations of a line are taken
pub record TakesGiven (line : ℕ) (done : List (Operation ℕ ℕ)) (n : ℕ) (old new : List Given) : Type 0 where
  pub more : List Given
  pub is : new ≡ old ++ more
  pub each : All (IsGivenOf line done) more
  pub all : (place : ℕ) (o : Operation ℕ ℕ) (v : ℕ) → place < n → slice_get done place ≡ Some o → o.value ≡ Some v
      → IsGivenAt more line place

-- it is what an operation of a committed transaction gives
pub record IsGiven (h : List (Transaction ℕ ℕ)) (g : Given) : Type 0 where
  pub t : Transaction ℕ ℕ
  pub o : Operation ℕ ℕ
  pub is : IsOperation h g.line g.place t o
  pub item_is : g.item ≡ o.item
  pub version_is : g.version ≡ o.version
  pub value_is : o.value ≡ Some g.value

-- the first n lines are taken
pub record AreGivenTo (h : List (Transaction ℕ ℕ)) (n : ℕ) (given : List Given) : Type 0 where
  pub each : All (IsGiven h) given
  pub all : (line place : ℕ) (t : Transaction ℕ ℕ) (o : Operation ℕ ℕ) (v : ℕ) → line < n
      → IsOperation h line place t o → o.value ≡ Some v
      → IsGivenAt given line place

-- ---- in order

-- the first may stand before the second
abbrev pub MayStandBefore : Given → Given → Type 0
MayStandBefore a b = (a.item < b.item) ⊎ ((a.item ≡ b.item) × ((a.version < b.version) ⊎ ((a.version ≡ b.version)
    × ((a.line < b.line) ⊎ ((a.line ≡ b.line) × (a.place ≤ b.place))))))

abbrev pub AreGivenInOrder : List Given → Type 0
AreGivenInOrder given = (i j : ℕ) (a b : Given) → i < j → slice_get given i ≡ Some a → slice_get given j ≡ Some b
    → MayStandBefore a b

-- of the same version the second is another value
pub record IsOtherThan (a b : Given) : Type 0 where
  pub item_is : a.item ≡ b.item
  pub version_is : a.version ≡ b.version
  pub other : a.value ≢ b.value

-- each that is another value than the one before it, up to the n-th, is covered
abbrev pub AreOthersCovered : List Given → ℕ → Option Fault → Type 0
AreOthersCovered given n first = (k : ℕ) (a b : Given) → suc k < n → slice_get given k ≡ Some a
    → slice_get given (suc k) ≡ Some b → IsOtherThan a b
    → Covers first b.line 5 b.place

-- each is a fault of the history
abbrev pub AreOthersFaulty : List (Transaction ℕ ℕ) → List Given → Type 0
AreOthersFaulty h given = (k : ℕ) (a b : Given) → slice_get given k ≡ Some a → slice_get given (suc k) ≡ Some b
    → IsOtherThan a b
    → IsFaulty h b.line Value b.place
