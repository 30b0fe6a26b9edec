-- Words of private clauses alone: parts of an operation's word, and a script's line as it is read.
use Rattle.std.specs.Prelude.{◌≡◌, ℕ, Bool, true, List, [], ◌∷◌, ◌++◌, map, decimal, All, Result, Ok, Err}
use Rattle.sgt_names.specs.Name.{Name}
use Rattle.sgt_notation.specs.PrivateEvents.{IsPlace, place_text}
use Rattle.sgt_notation.specs.Scripts.{op_text, script_text, IsOp, IsScript, ReadsScript}
use Rattle.sgt_notation.specs.Spelling.{IsValue}
use Rattle.sgt_notation.specs.declared.script.Op.{Op}
use Rattle.sgt_notation.specs.declared.script.Op.TheVariants.{Read, Put, Add, Sum}
use Rattle.sgt_notation.specs.declared.reading_scripts.Tail.{Tail}
use Rattle.sgt_notation.specs.declared.reading_scripts.Tail.TheVariants.{Nothing, Number, Total}
use Rattle.sgt_notation.specs.declared.fault.NotationFault.{NotationFault}

-- a source and the number that is added to it
abbrev pub IsTotal : (ℕ × Name) × ℕ → Type 0
IsTotal t = IsPlace t.0 × IsValue t.1

abbrev pub total_text : (ℕ × Name) × ℕ → List ℕ
total_text t = place_text t.0 ++ 43 ∷ decimal t.1

-- what stands behind the place of an operation and its bracket
abbrev pub IsTail : Tail → Type 0
IsTail Nothing = Unit {0}
IsTail (Number v) = IsValue v
IsTail (Total p v) = IsTotal (p, v)

abbrev pub tail_text : Tail → List ℕ
tail_text Nothing = []
tail_text (Number v) = 61 ∷ decimal v
tail_text (Total p v) = 61 ∷ total_text (p, v)

-- what stands behind the letter of an operation: its place in brackets, and the tail
abbrev pub IsAim : (ℕ × Name) × Tail → Type 0
IsAim a = IsPlace a.0 × IsTail a.1

abbrev pub aim_text : (ℕ × Name) × Tail → List ℕ
aim_text a = 91 ∷ (place_text a.0 ++ 93 ∷ tail_text a.1)

-- an operation as its letter and what stands behind it
abbrev pub parts_of : Op → ℕ × ((ℕ × Name) × Tail)
parts_of (Read s x) = (114, ((s, x), Nothing))
parts_of (Put s x v) = (119, ((s, x), Number v))
parts_of (Add s x v) = (100, ((s, x), Number v))
parts_of (Sum s x t y v) = (119, ((s, x), Total (t, y) v))

-- operations that these words spell, and whether all of them were kept
pub record KeepsAll (all : List (List ℕ)) (kept_ops : List Op) (kept : Bool) : Type 0 where
  pub ops : List Op
  pub each : All IsOp ops
  pub spelled : all ≡ map op_text ops
  pub whole : kept ≡ true → kept_ops ≡ ops

-- the line spells a script, whose operations were kept; or it is refused as `read_script` refuses
-- it
abbrev pub KeepsScript : List ℕ → List Op → Result (Unit {0}) NotationFault → Type 0
KeepsScript line ops (Ok u) = IsScript (record { operations = ops })
    × (line ≡ script_text (record { operations = ops }))
KeepsScript line ops (Err e) = ReadsScript line (Err e)
