-- The faults of the touches of one version of one item, by its writes.
use Rattle.std.specs.Prelude.{◌≡◌, ◌≢◌, ◌⊎◌, ℕ, ◌<◌, ◌≤◌, Bool, true, List, length, Option, None, Some, slice_get, Contains}
use Rattle.sgt_history.specs.Transaction.{Transaction}
use Rattle.sgt_history.specs.Flaws.{IsFaulty, rank_of}
use Rattle.sgt_history.specs.declared.history.Kind.{Kind}
use Rattle.sgt_history.specs.declared.history.Kind.TheVariants.{Read, Write}
use Rattle.sgt_history.specs.declared.named.Flaw.{Flaw}
use Rattle.sgt_history.specs.declared.named.Flaw.TheVariants.{Internal, Duplicate, AbortedRead, Unwritten, IntermediateRead, Value}
use Rattle.sgt_history_faults.specs.declared.fault.Fault.{Fault}
use Rattle.sgt_history_faults.specs.declared.touch.Touch.{Touch}
use Rattle.sgt_history_faults.specs.Noted.{Covers}

-- one of the writes, of a transaction that commits
abbrev pub IsCommittedBy : (Touch → Type 0) → Touch → Type 0
IsCommittedBy W w = W w × (w.commits ≡ true)

-- of the writes by transactions that commit none is of an earlier line
pub record IsEarliestBy (W : Touch → Type 0) (w : Touch) : Type 0 where
  pub is : IsCommittedBy W w
  pub least : (other : Touch) → IsCommittedBy W other → w.line ≤ other.line

-- the touch, of the version that is written by these, has this fault
abbrev pub HasFlawBy : (Touch → Type 0) → Touch → Flaw → Type 0
HasFlawBy W e Internal = (e.kind ≡ Read) × (w : Touch) × W w × (w.line ≡ e.line)
HasFlawBy W e Duplicate = (e.kind ≡ Write) × (e.commits ≡ true) × (w : Touch) × IsCommittedBy W w × (w.line < e.line)
HasFlawBy W e AbortedRead = (e.kind ≡ Read) × (e.version ≢ 0) × ((w : Touch) → IsCommittedBy W w → ⊥)
    × (w : Touch) × W w
HasFlawBy W e Unwritten = (e.kind ≡ Read) × (e.version ≢ 0) × ((w : Touch) → W w → ⊥)
HasFlawBy W e IntermediateRead = (e.kind ≡ Read) × (e.version ≢ 0) × (w : Touch) × IsEarliestBy W w
    × (w.surpassed ≡ true)
HasFlawBy W e Value = ⊥

-- the same where the writes are all in one list
abbrev pub IsCommittedOf : List Touch → Touch → Type 0
IsCommittedOf writes w = IsCommittedBy (Contains writes) w

abbrev pub IsEarliest : List Touch → Touch → Type 0
IsEarliest writes w = IsEarliestBy (Contains writes) w

abbrev pub HasGroupFlaw : List Touch → Touch → Flaw → Type 0
HasGroupFlaw writes e flaw = HasFlawBy (Contains writes) e flaw

-- and where they are among all touches: the writes of the touch's version
pub record IsWriteAlso (touches : List Touch) (e w : Touch) : Type 0 where
  pub in_it : Contains touches w
  pub write : w.kind ≡ Write
  pub item_is : w.item ≡ e.item
  pub version_is : w.version ≡ e.version

abbrev pub HasTouchFlaw : List Touch → Touch → Flaw → Type 0
HasTouchFlaw touches e flaw = HasFlawBy (IsWriteAlso touches e) e flaw

-- each fault of these touches is covered
abbrev pub AreCovered : List Touch → List Touch → Option Fault → Type 0
AreCovered writes touches first = (e : Touch) (flaw : Flaw) → Contains touches e → HasGroupFlaw writes e flaw
    → Covers first e.line (rank_of flaw) e.place

-- each fault of the touch is one of the history
abbrev pub IsFaultyTouch : List (Transaction ℕ ℕ) → List Touch → Touch → Type 0
IsFaultyTouch h writes e = (flaw : Flaw) → HasGroupFlaw writes e flaw → IsFaulty h e.line flaw e.place

-- so it is with each of the touches
abbrev pub AreFaulty : List (Transaction ℕ ℕ) → List Touch → List Touch → Type 0
AreFaulty h writes touches = (e : Touch) → Contains touches e → IsFaultyTouch h writes e

-- the lines rise
abbrev pub LinesRise : List Touch → Type 0
LinesRise touches = (i j : ℕ) (a b : Touch) → i ≤ j → slice_get touches i ≡ Some a → slice_get touches j ≡ Some b
    → a.line ≤ b.line

-- whether the first of the writes by transactions that commit, which is of the earliest line, is this
abbrev pub IsWriter : List Touch → Option Touch → Type 0
IsWriter writes None = (w : Touch) → IsCommittedOf writes w → ⊥
IsWriter writes (Some w) = IsEarliest writes w

abbrev pub IsWrite : Touch → Type 0
IsWrite e = e.kind ≡ Write

abbrev pub IsRead : Touch → Type 0
IsRead e = e.kind ≡ Read

-- writes of one line tell alike whether they are surpassed
abbrev pub AreAlike : List Touch → Type 0
AreAlike writes = (a b : Touch) → Contains writes a → Contains writes b → a.line ≡ b.line → a.surpassed ≡ b.surpassed

-- the writes before the place are of earlier lines
abbrev pub AreEarlier : List Touch → (place line : ℕ) → Type 0
AreEarlier writes place line = (k : ℕ) (w : Touch) → k < place → slice_get writes k ≡ Some w → w.line < line

-- ---- of all touches

-- writes of one version by one line tell alike whether they are surpassed
abbrev pub AreAllAlike : List Touch → Type 0
AreAllAlike touches = (a b : Touch) → Contains touches a → Contains touches b → a.kind ≡ Write → b.kind ≡ Write
    → a.item ≡ b.item
    → a.version ≡ b.version → a.line ≡ b.line → a.surpassed ≡ b.surpassed

-- each fault of a touch is covered
abbrev pub AreAllCovered : List Touch → Option Fault → Type 0
AreAllCovered touches first = (e : Touch) (flaw : Flaw) → Contains touches e → HasTouchFlaw touches e flaw
    → Covers first e.line (rank_of flaw) e.place

-- each fault of a touch is one of the history
abbrev pub AreAllFaulty : List (Transaction ℕ ℕ) → List Touch → Type 0
AreAllFaulty h touches = (e : Touch) (flaw : Flaw) → Contains touches e → HasTouchFlaw touches e flaw
    → IsFaulty h e.line flaw e.place

-- the touch is of the same version of the same item, and of this kind
pub record IsLike (like : Touch) (kind : Kind) (e : Touch) : Type 0 where
  pub item_is : e.item ≡ like.item
  pub version_is : e.version ≡ like.version
  pub kind_is : e.kind ≡ kind

-- those between are like it, and the next one isn't
pub record AreLike (touches : List Touch) (like : Touch) (kind : Kind) (from to : ℕ) : Type 0 where
  pub from_most : from ≤ to
  pub within : to ≤ length touches
  pub each : (k : ℕ) (e : Touch) → from ≤ k → k < to → slice_get touches k ≡ Some e → IsLike like kind e
  pub ends : (e : Touch) → slice_get touches to ≡ Some e → IsLike like kind e → ⊥

-- no touch before the place is of the same version as one from there on
abbrev pub IsBoundary : List Touch → ℕ → Type 0
IsBoundary touches place = (i j : ℕ) (a b : Touch) → i < place → place ≤ j → slice_get touches i ≡ Some a
    → slice_get touches j ≡ Some b
    → a.item ≡ b.item → a.version ≡ b.version → ⊥

-- each fault of the touches before the place is covered
abbrev pub AreFrontCovered : List Touch → ℕ → Option Fault → Type 0
AreFrontCovered touches place first = (k : ℕ) (e : Touch) (flaw : Flaw) → k < place → slice_get touches k ≡ Some e
    → HasTouchFlaw touches e flaw → Covers first e.line (rank_of flaw) e.place
