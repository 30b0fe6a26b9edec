-- The touches of a history: what its transactions write, and what they read of others.
use Rattle.std.specs.Prelude.{◌≡◌, ◌≢◌, ◌⊎◌, ◌↔◌, ◌++◌, ℕ, ◌<◌, ◌≤◌, length, Bool, true, IsTrue, List, Option, None, Some, slice_get, All, Contains}
use Rattle.sgt_history.specs.declared.history.Kind.TheVariants.{Read, Write}
use Rattle.sgt_history.specs.declared.history.Operation.{Operation}
use Rattle.sgt_history.specs.Transaction.{Transaction}
use Rattle.sgt_history.specs.Serial.{IsWriteOf, NoneWrites}
use Rattle.sgt_history_faults.specs.Mine.{ContradictsOwn}
use Rattle.sgt_history_faults.specs.declared.mine.Mine.{Mine}
use Rattle.sgt_history_faults.specs.declared.touch.Touch.{Touch}
use Rattle.sgt_history_faults.specs.declared.touching.Whose.{Whose}

-- the operations write a greater version of the item
pub record WritesGreater (done : List (Operation ℕ ℕ)) (x version : ℕ) : Type 0 where
  pub place : ℕ
  pub o : Operation ℕ ℕ
  pub there : slice_get done place ≡ Some o
  pub writes : IsWriteOf o x
  pub above : version < o.version

-- the touch is an operation of the line, whose operations are these: a write, or a committed
-- transaction's read of an item that it doesn't write before
pub record IsTouchOf (line : ℕ) (commits : Bool) (done : List (Operation ℕ ℕ)) (e : Touch) : Type 0 where
  pub o : Operation ℕ ℕ
  pub line_is : e.line ≡ line
  pub commits_is : e.commits ≡ commits
  pub there : slice_get done e.place ≡ Some o
  pub item_is : e.item ≡ o.item
  pub version_is : e.version ≡ o.version
  pub kind_is : e.kind ≡ o.kind
  pub read : o.kind ≡ Read → (commits ≡ true) × NoneWrites done 0 e.place o.item

-- of a write: whether the transaction writes a greater version
abbrev pub TellsSurpassed : List (Operation ℕ ℕ) → Touch → Type 0
TellsSurpassed done e = e.kind ≡ Write → (IsTrue e.surpassed ↔ WritesGreater done e.item e.version)

-- an operation is to be touched
abbrev pub IsToTouch : Bool → List (Operation ℕ ℕ) → ℕ → Operation ℕ ℕ → Type 0
IsToTouch commits done place o =
    (o.kind ≡ Write) ⊎ ((o.kind ≡ Read) × (commits ≡ true) × NoneWrites done 0 place o.item)

-- one of the touches is that operation
pub record IsTouched (touches : List Touch) (line place : ℕ) : Type 0 where
  pub e : Touch
  pub in_it : Contains touches e
  pub line_is : e.line ≡ line
  pub place_is : e.place ≡ place

-- none of the operations contradicts what was written before, or that one does, and none before it
abbrev pub IsContradicted : List (Operation ℕ ℕ) → ℕ → Type 0
IsContradicted done place = (o : Operation ℕ ℕ) × (slice_get done place ≡ Some o) × ContradictsOwn done place o

abbrev pub TellsContradiction : List (Operation ℕ ℕ) → ℕ → Option ℕ → Type 0
TellsContradiction done n None = (place : ℕ) → place < n → IsContradicted done place → ⊥
TellsContradiction done n (Some first) = (first < n) × IsContradicted done first
    × ((place : ℕ) → place < first → IsContradicted done place → ⊥)

-- ---- of the whole history

pub record IsTouch (h : List (Transaction ℕ ℕ)) (e : Touch) : Type 0 where
  pub t : Transaction ℕ ℕ
  pub in_line : slice_get h e.line ≡ Some t
  pub of : IsTouchOf e.line t.commits t.operations e
  pub surpassed : TellsSurpassed t.operations e

-- the touches are those of the history
pub record AreTouches (h : List (Transaction ℕ ℕ)) (touches : List Touch) : Type 0 where
  pub each : All (IsTouch h) touches
  pub all : (line place : ℕ) (t : Transaction ℕ ℕ) (o : Operation ℕ ℕ) → slice_get h line ≡ Some t
      → slice_get t.operations place ≡ Some o → IsToTouch t.commits t.operations place o → IsTouched touches line place

-- ---- while a line is taken

-- its first n operations are taken: what is new behind the touches before are theirs, whether one
-- surpasses another still to be told
pub record TakesLine (whose : Whose) (done : List (Operation ℕ ℕ)) (n : ℕ) (old new : List Touch) : Type 0 where
  pub more : List Touch
  pub is : new ≡ old ++ more
  pub each : All (IsTouchOf whose.line whose.commits done) more
  pub all : (place : ℕ) (o : Operation ℕ ℕ) → place < n → slice_get done place ≡ Some o
      → IsToTouch whose.commits done place o
      → IsTouched more whose.line place

-- there is room for the touch's item
abbrev pub IsTouchBelow : ℕ → Touch → Type 0
IsTouchBelow items e = e.item < items

-- the touch is the one before, and tells whether what was written in all of its item is greater
pub record IsMarkOf (mine : List Mine) (old new : Touch) : Type 0 where
  pub m : Mine
  pub mine_is : slice_get mine old.item ≡ Some m
  pub told : IsTrue new.surpassed ↔ (old.version < m.greatest)
  pub is : new ≡ record old { surpassed = new.surpassed }

-- the touches from a place on are so, those before it as they were
pub record AreMarked (from : ℕ) (mine : List Mine) (old new : List Touch) : Type 0 where
  pub size : length new ≡ length old
  pub before : (k : ℕ) → k < from → slice_get new k ≡ slice_get old k
  pub behind : (k : ℕ) (a b : Touch) → from ≤ k → slice_get old k ≡ Some a → slice_get new k ≡ Some b
      → IsMarkOf mine a b
