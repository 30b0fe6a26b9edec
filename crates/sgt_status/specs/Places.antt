-- Files, whatever their names.
use Rattle.std.specs.Prelude.{◌≡◌, ◌⊎◌, List, [], ◌∷◌, Option, Some}
use Rattle.sgt_status.specs.declared.place.FileId.{FileId}

-- one file: of one device and of one number there
abbrev pub IsSame : FileId → FileId → Type 0
IsSame one other = (one.device ≡ other.device) × (one.number ≡ other.number)

-- both are there, and are one file
abbrev pub IsSameFile : Option FileId → Option FileId → Type 0
IsSameFile (Some one) (Some other) = IsSame one other
IsSameFile _ _ = ⊥

-- the file is one of those that are taken
abbrev pub IsTaken : Option FileId → List FileId → Type 0
IsTaken file [] = ⊥
IsTaken file (first ∷ behind) = IsSameFile file (Some first) ⊎ IsTaken file behind
