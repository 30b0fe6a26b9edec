-- Which names are of one file, and what is written over.
use Rattle.std.specs.Prelude.{◌≡◌, ◌⊎◌, ℕ, List, Option, Some, None}
use Rattle.sgt_status.specs.Places.{IsSameFile, IsTaken}
use Rattle.sgt_status.specs.declared.place.FileId.{FileId}
use Rattle.sgt_status.specs.declared.place.Place.{Place}

-- the names are of one file, or of one that isn't there yet: of one folder, and called the same there
abbrev pub MayBeSame : Place → Place → Type 0
MayBeSame one other = IsSameFile one.file other.file
    ⊎ (IsSameFile one.folder other.folder × (one.inner.now ≡ other.inner.now))

-- this is the name of the place, and its file is taken
abbrev pub IsOver : Option Place → List FileId → List ℕ → Type 0
IsOver (Some place) taken name = IsTaken place.file taken × (name ≡ place.name.now)
IsOver None taken name = ⊥

-- both places may be of one file, and this is the name of the second
abbrev pub IsTwice : (one other : Option Place) → List ℕ → Type 0
IsTwice (Some one) (Some other) name = MayBeSame one other × (name ≡ other.name.now)
IsTwice _ _ name = ⊥

-- this is written over what is taken, or is written twice
abbrev pub IsOverwritten : (output place : Option Place) → List FileId → List ℕ → Type 0
IsOverwritten output place taken name = IsOver output taken name
    ⊎ (IsOver place taken name ⊎ IsTwice output place name)
