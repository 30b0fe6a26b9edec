-- What one transaction has written of an item before one of its operations.
use Rattle.std.specs.Prelude.{◌≡◌, ◌≢◌, ℕ, ◌<◌, ◌≤◌, List, Some, slice_get, All}
use Rattle.sgt_history.specs.declared.history.Kind.TheVariants.{Read, Write}
use Rattle.sgt_history.specs.declared.history.Operation.{Operation}
use Rattle.sgt_history.specs.Serial.{IsWriteOf, NoneWrites, IsLastWritten}
use Rattle.sgt_history_faults.specs.declared.mine.Mine.{Mine}
use Rattle.sgt_history_faults.specs.declared.mine.Owned.{Owned}
use Rattle.sgt_history_faults.specs.declared.mine.Owned.TheVariants.{Not, Follows, Contradicts}

-- the greatest version of the item that is written before the place
pub record IsGreatest (done : List (Operation ℕ ℕ)) (n x version : ℕ) : Type 0 where
  pub most : (place : ℕ) (o : Operation ℕ ℕ) → place < n → slice_get done place ≡ Some o → IsWriteOf o x
      → o.version ≤ version
  pub place : ℕ
  pub o : Operation ℕ ℕ
  pub before : place < n
  pub there : slice_get done place ≡ Some o
  pub writes : IsWriteOf o x
  pub version_is : o.version ≡ version

-- what is kept of an item says what the operations before the n-th wrote of it, if its stamp is theirs
pub record IsMine (stamp : ℕ) (done : List (Operation ℕ ℕ)) (n x : ℕ) (m : Mine) : Type 0 where
  pub last : m.stamp ≡ stamp → IsLastWritten done n x m.last
  pub greatest : m.stamp ≡ stamp → IsGreatest done n x m.greatest
  pub none : m.stamp ≢ stamp → NoneWrites done 0 n x

-- the operation is an own read of the version written last before, or writes again and a greater one
pub record FollowsOwn (done : List (Operation ℕ ℕ)) (n : ℕ) (o : Operation ℕ ℕ) : Type 0 where
  pub version : ℕ
  pub own : IsLastWritten done n o.item version
  pub read : o.kind ≡ Read → o.version ≡ version
  pub write : o.kind ≡ Write → version < o.version

-- it is an own read of another version, or writes again and no greater one
pub record ContradictsOwn (done : List (Operation ℕ ℕ)) (n : ℕ) (o : Operation ℕ ℕ) : Type 0 where
  pub version : ℕ
  pub own : IsLastWritten done n o.item version
  pub read : o.kind ≡ Read → o.version ≢ version
  pub write : o.kind ≡ Write → o.version ≤ version

abbrev pub IsOwned : List (Operation ℕ ℕ) → ℕ → Operation ℕ ℕ → Owned → Type 0
IsOwned done n o Not = NoneWrites done 0 n o.item
IsOwned done n o Follows = FollowsOwn done n o
IsOwned done n o Contradicts = ContradictsOwn done n o

-- so it does of each item
abbrev pub AreMine : (stamp : ℕ) → List (Operation ℕ ℕ) → (n : ℕ) → List Mine → Type 0
AreMine stamp done n mine = (x : ℕ) (m : Mine) → slice_get mine x ≡ Some m → IsMine stamp done n x m

-- no stamp is greater
abbrev pub StampedTo : ℕ → List Mine → Type 0
StampedTo stamp mine = All (λ (m : Mine). m.stamp ≤ stamp) mine

-- there is room for the operation's item
abbrev pub IsItemBelow : ℕ → Operation ℕ ℕ → Type 0
IsItemBelow items o = o.item < items
