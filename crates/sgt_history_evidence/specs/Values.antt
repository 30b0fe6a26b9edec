-- The operations that give a value of a version of an item.
use Rattle.std.specs.Prelude.{◌≡◌, ℕ, ◌≤◌, List, Some, slice_get}
use Rattle.sgt_history.specs.declared.history.Operation.{Operation}
use Rattle.sgt_history.specs.Transaction.{Transaction}
use Rattle.sgt_history.specs.Serial.{IsCommitted}

-- the operation gives a value of this version of the item
pub record IsGift {I V : Type 0} (o : Operation I V) (x : I) (version : ℕ) : Type 0 where
  pub item_is : o.item ≡ x
  pub version_is : o.version ≡ version
  pub value : V
  pub given : o.value ≡ Some value

-- the operation at the place does
pub record GivesIn {I V : Type 0} (operations : List (Operation I V)) (x : I) (version place : ℕ) : Type 0 where
  pub o : Operation I V
  pub there : slice_get operations place ≡ Some o
  pub gift : IsGift o x version

-- the one at the place of the line's transaction, which is committed
pub record GivesAt {I V : Type 0} (h : List (Transaction I V)) (x : I) (version line place : ℕ) : Type 0 where
  pub t : Transaction I V
  pub committed : IsCommitted h line t
  pub is : GivesIn t.operations x version place

-- ---- the first that does

pub record IsFirstGivenIn {I V : Type 0} (operations : List (Operation I V)) (x : I) (version place : ℕ) : Type 0 where
  pub gives : GivesIn operations x version place
  pub first : (other : ℕ) → GivesIn operations x version other → place ≤ other

-- of the line
pub record IsFirstInLine {I V : Type 0} (h : List (Transaction I V)) (x : I) (version line place : ℕ) : Type 0 where
  pub gives : GivesAt h x version line place
  pub first : (other : ℕ) → GivesAt h x version line other → place ≤ other

-- of all lines
pub record IsFirstGiven {I V : Type 0} (h : List (Transaction I V)) (x : I) (version line place : ℕ) : Type 0 where
  pub here : IsFirstInLine h x version line place
  pub first : (line' place' : ℕ) → GivesAt h x version line' place' → line ≤ line'
