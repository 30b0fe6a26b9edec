-- What was done to an item, as its operations are decided one by one, and whom the next one is
-- joined to.
use Rattle.std.specs.Prelude.{◌≡◌, ◌⊎◌, ◌≤◌, ◌<◌, ◌++◌, ◌∷◌, [], ℕ, suc, true, false, List, Some, All, Contains, Vec, length, slice_get, slice_set}
use Rattle.std.specs.declared.alloc.Global.{Global}
use Rattle.sgt_service_settle.specs.declared.deeds.Deed.{Deed}
use Rattle.sgt_service_settle.specs.declared.course.Course.{Course}

-- the change of this version is a write
pub record IsWriteAt (c : Course) (version : ℕ) : Type 0 where
  pub write : Deed
  pub at : slice_get c.changes.items version ≡ Some write
  pub is : write.increment ≡ false

-- the version was read
pub record IsReadAt (c : Course) (version : ℕ) : Type 0 where
  pub row : Vec Deed Global
  pub at : slice_get c.reads.items version ≡ Some row
  pub place : ℕ
  pub read : Deed
  pub has : slice_get row.items place ≡ Some read

-- the version was read, or its change is a write, or the one before it
abbrev pub IsTurn : Course → ℕ → Type 0
IsTurn c version = IsWriteAt c version
    ⊎ (IsReadAt c version ⊎ ((w : ℕ) × (suc w ≡ version) × IsWriteAt c w))

-- the last change before the end, no earlier than the first version, is a write, or the version at
-- the end was read
pub record IsEnd (c : Course) (first end : ℕ) : Type 0 where
  pub last : ℕ
  pub from : first ≤ last
  pub next : suc last ≡ end
  pub which : IsWriteAt c last ⊎ IsReadAt c end

-- the version is one of those there are; a change is of the last one
pub record Fits (c : Course) (d : Deed) : Type 0 where
  pub read : d.read ≡ true → d.version ≤ length c.changes.items
  pub change : d.read ≡ false → d.version ≡ length c.changes.items

-- there is a place for the reads of each version
pub record IsShaped (c : Course) : Type 0 where
  pub long : length c.reads.items ≡ suc (length c.changes.items)

-- the course is that of these deeds
pub record IsCourse (done : List Deed) (c : Course) : Type 0 where
  pub shaped : IsShaped c
  pub changes : (v : ℕ) (d : Deed) → slice_get c.changes.items v ≡ Some d
      → Contains done d × (d.read ≡ false) × (d.version ≡ v)
  pub changed : (d : Deed) → Contains done d → d.read ≡ false
      → slice_get c.changes.items d.version ≡ Some d
  pub reads : (v : ℕ) (row : Vec Deed Global) (d : Deed) → slice_get c.reads.items v ≡ Some row
      → Contains row.items d
      → Contains done d × (d.read ≡ true) × (d.version ≡ v)
  pub read : (d : Deed) → Contains done d → d.read ≡ true
      → (row : Vec Deed Global) × (slice_get c.reads.items d.version ≡ Some row)
      × Contains row.items d
  pub added : (v : ℕ) (d : Deed) → c.written ≤ v → slice_get c.changes.items v ≡ Some d
      → d.increment ≡ true
  pub wrote : (v : ℕ) (d : Deed) → suc v ≡ c.written → slice_get c.changes.items v ≡ Some d
      → d.increment ≡ false
  pub written : c.written ≤ length c.changes.items
  pub last : (d : Deed) → Contains done d → d.read ≡ true → d.version ≤ c.last_read
  pub last_read : (c.last_read ≡ 0)
      ⊎ ((d : Deed) × Contains done d × (d.read ≡ true) × (d.version ≡ c.last_read))

-- the deed is the transaction's own, or has the step's mark
abbrev pub IsNoted : List ℕ → ℕ → ℕ → Deed → Type 0
IsNoted marks step tx d = (d.tx ≡ tx) ⊎ (slice_get marks d.tx ≡ Some step)

-- J holds of the changes from some version up to this one, and those before it are led on there
pub record AreFrontNoted (J : Deed → Type 0) (c : Course) (version : ℕ) : Type 0 where
  pub first : ℕ
  pub turn : (first ≡ 0) ⊎ ((first < version) × IsTurn c first)
  pub noted : (v : ℕ) (d : Deed) → first ≤ v → v < version → slice_get c.changes.items v ≡ Some d
      → J d

-- J holds of the changes from this version up to some other, and those behind it are reached from
-- there
pub record AreBackNoted (J : Deed → Type 0) (c : Course) (version : ℕ) : Type 0 where
  pub end : ℕ
  pub turn : (end ≡ length c.changes.items) ⊎ IsEnd c version end
  pub noted : (v : ℕ) (d : Deed) → version ≤ v → v < end → slice_get c.changes.items v ≡ Some d
      → J d

-- J holds of the reads of the version
abbrev pub AreReadsNoted : (Deed → Type 0) → Course → ℕ → Type 0
AreReadsNoted J c version = (row : Vec Deed Global) → slice_get c.reads.items version ≡ Some row
    → All J row.items

abbrev pub IsLastWriteNoted : (Deed → Type 0) → Course → Type 0
IsLastWriteNoted J c = (v : ℕ) (d : Deed) → suc v ≡ c.written → slice_get c.changes.items v ≡ Some d
    → J d

-- J holds of the last write, and of the reads of the last version that was read since
pub record FollowsAsIncrement (J : Deed → Type 0) (c : Course) : Type 0 where
  pub write : IsLastWriteNoted J c
  pub reads : c.written ≤ c.last_read → AreReadsNoted J c c.last_read

-- J holds of the reads of the present version, or of the changes in front of it where there are
-- none
pub record FollowsAsWrite (J : Deed → Type 0) (c : Course) : Type 0 where
  pub reads : AreReadsNoted J c (length c.changes.items)
  pub changes : IsReadAt c (length c.changes.items) ⊎ AreFrontNoted J c (length c.changes.items)

-- From holds of the deed's neighbours that it conflicts with and that come before it, To of those
-- behind it
pub record Follows (From To : Deed → Type 0) (c : Course) (d : Deed) : Type 0 where
  pub front : d.read ≡ true → AreFrontNoted From c d.version
  pub back : d.read ≡ true → AreBackNoted To c d.version
  pub increment : d.read ≡ false → d.increment ≡ true → FollowsAsIncrement From c
  pub write : d.read ≡ false → d.increment ≡ false → FollowsAsWrite From c

-- the deed is the last of the reads of its version
pub record IsReadAdded (old : Course) (d : Deed) (new : Course) : Type 0 where
  pub changes : new.changes ≡ old.changes
  pub written : new.written ≡ old.written
  pub before : Vec Deed Global
  pub after : Vec Deed Global
  pub was : slice_get old.reads.items d.version ≡ Some before
  pub now : new.reads.items ≡ slice_set old.reads.items d.version after
  pub more : after.items ≡ before.items ++ d ∷ []
  pub last : ((old.last_read < d.version) × (new.last_read ≡ d.version))
      ⊎ ((d.version ≤ old.last_read) × (new.last_read ≡ old.last_read))

-- the deed is the last of the changes, and the version that it makes has no reads
pub record IsChangeAdded (old : Course) (d : Deed) (new : Course) : Type 0 where
  pub changes : new.changes.items ≡ old.changes.items ++ d ∷ []
  pub none : Vec Deed Global
  pub is_none : none.items ≡ []
  pub reads : new.reads.items ≡ old.reads.items ++ none ∷ []
  pub last : new.last_read ≡ old.last_read
  pub increment : d.increment ≡ true → new.written ≡ old.written
  pub write : d.increment ≡ false → new.written ≡ suc (length old.changes.items)
