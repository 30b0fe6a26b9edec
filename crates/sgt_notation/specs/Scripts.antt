-- The lines of scripts: how they are spelled, and what it is to read one.
use Rattle.std.specs.Prelude.{◌≡◌, ℕ, ◌≤◌, List, ◌++◌, length, map, take, codes, decimal, All, Any, Some, slice_get, Result, Ok, Err}
use Rattle.std.specs.List.{join_with_byte}
use Rattle.sgt_names.specs.Name.{Name, IsName}
use Rattle.sgt_notation.specs.Events.{place}
use Rattle.sgt_names.specs.Limits.{max_line}
use Rattle.sgt_notation.specs.Reading.{Refuses, SpellsNone}
use Rattle.sgt_notation.specs.Spelling.{IsSite, IsValue}
use Rattle.sgt_notation.specs.declared.script.Op.{Op}
use Rattle.sgt_notation.specs.declared.script.Op.TheVariants.{Read, Put, Add, Sum}
use Rattle.sgt_notation.specs.declared.script.Script.{Script}
use Rattle.sgt_notation.specs.declared.fault.NotationFault.{NotationFault}
use Rattle.sgt_notation.specs.declared.fault.NotationFault.TheVariants.{Memory}

-- the word of an operation: a sum is written as the place of its source, a plus sign and the number
abbrev pub op_text : Op → List ℕ
op_text (Read s x) = codes "r[" ++ (place s x ++ codes "]")
op_text (Put s x v) = codes "w[" ++ (place s x ++ (codes "]=" ++ decimal v))
op_text (Add s x v) = codes "d[" ++ (place s x ++ (codes "]=" ++ decimal v))
op_text (Sum s x t y v) = codes "w[" ++ (place s x ++ (codes "]=" ++ (place t y ++ (codes "+" ++ decimal v))))

-- the line of a script: its operations, with one space between each two
abbrev pub script_text : Script → List ℕ
script_text s = join_with_byte 32 (map op_text s.operations)

-- an operation, its numbers and names in their ranges
abbrev pub IsOp : Op → Type 0
IsOp (Read s x) = IsSite s × IsName x
IsOp (Put s x v) = (IsSite s × IsName x) × IsValue v
IsOp (Add s x v) = (IsSite s × IsName x) × IsValue v
IsOp (Sum s x t y v) = (IsSite s × IsName x) × ((IsSite t × IsName y) × IsValue v)

-- the operation reads the item of the site or is to write it. An increment does neither
abbrev pub Names : ℕ → Name → Op → Type 0
Names t y (Read s x) = (s ≡ t) × (x ≡ y)
Names t y (Put s x v) = (s ≡ t) × (x ≡ y)
Names t y (Add s x v) = ⊥
Names t y (Sum s x from from_item v) = (s ≡ t) × (x ≡ y)

-- if the operation is a sum, one of the earlier ones names its source
abbrev pub HasSource : List Op → Op → Type 0
HasSource earlier (Sum s x t y v) = Any (Names t y) earlier
HasSource earlier _ = Unit {0}

-- the source of each sum is named before it
abbrev pub AreSourcesNamed : List Op → Type 0
AreSourcesNamed ops = (n : ℕ) (op : Op) → slice_get ops n ≡ Some op → HasSource (take n ops) op

-- a script that a line may give: one operation or more, their sources named, and no longer than a
-- line may be
pub record IsScript (s : Script) : Type 0 where
  pub each : All IsOp s.operations
  pub some : 1 ≤ length s.operations
  pub named : AreSourcesNamed s.operations
  pub room : length (script_text s) ≤ max_line

-- What a reading of a script's line gives: the script that it spells; or L1 or L2, where it spells
-- none; or want of memory, where
-- it spells one operation or more and isn't too long. Whether their sources are named can't be told
-- without memory.
abbrev pub ReadsScript : List ℕ → Result Script NotationFault → Type 0
ReadsScript line (Ok s) = IsScript s × (line ≡ script_text s)
ReadsScript line (Err Memory) =
    (s : Script) × All IsOp s.operations × (1 ≤ length s.operations) × (line ≡ script_text s)
    × (length line ≤ max_line)
ReadsScript line (Err e) = Refuses line e × SpellsNone IsScript script_text line
