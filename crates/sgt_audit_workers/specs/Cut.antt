-- What was read of a text in one piece.
use Rattle.std.specs.Prelude.{◌≡◌, ◌≢◌, ◌<◌, ◌≤◌, ◌+◌, ℕ, Bool, IsTrue, List, ◌++◌, length, take, Option, Some, None, IfSome, Result, Ok, Err}
use Rattle.std.specs.Io.KnownBytes.{Consumes, IsAtEnd}
use Rattle.sgt_names.specs.Limits.{max_line, most_reads}
use Rattle.sgt_names.specs.declared.outcome.EngineFail.{EngineFail}
use Rattle.sgt_notation.specs.Lines.{Ahead, IsLongerThan, ReadFaultIsDue, Spends, passed}
use Rattle.sgt_audit_workers.specs.declared.cutting.Stop.{Stop}
use Rattle.sgt_audit_workers.specs.declared.cutting.Stop.TheVariants.{Section, Text, Room, Long}

-- where a piece stops this is left behind it, and this comes now, and so many reads gave none of it
abbrev pub StopsAt : (left new : Option (List ℕ)) → (idle : ℕ) → Result Stop EngineFail → Type 0
StopsAt left new idle (Ok Section) = (left ≡ new) × (idle ≡ 0)
StopsAt left new idle (Ok Room) = (left ≡ new) × (idle ≡ 0)
StopsAt left new idle (Ok Text) = (idle ≤ 1) × IsAtEnd left
-- a line that is too long is not put behind the piece
StopsAt left new idle (Ok Long) = IfSome left (IsLongerThan max_line)
-- nor is one that was being read when reading failed
StopsAt left new idle (Err e) = Unit {0}

-- how many bytes a piece may have that is wanted to have so many, with the reads that gave none of it
abbrev pub longest : ℕ → ℕ
longest most = most + max_line + 2

pub record IsShort (most idle many : ℕ) : Type 0 where
  pub with_idle : idle + many + 1 ≤ longest most
  pub itself : many + 2 ≤ longest most

-- A piece of what came was put behind these bytes, and each read, of those that are gone, took a
-- byte of it at least, but for a few.
pub record IsPiece (most : ℕ) (old new : Option (List ℕ)) (reads reads' : ℕ) (before after : List ℕ)
    (stop : Result Stop EngineFail) : Type 0 where
  pub piece : List ℕ
  pub left : Option (List ℕ)
  pub idle : ℕ
  pub section : after ≡ before ++ piece
  pub read : Consumes old left piece
  pub spends : Spends reads old (reads' + idle) left
  pub short : length before + 2 ≤ longest most → IsShort most idle (length after)
  pub stops : StopsAt left new idle stop

-- a read fault is due, whenever reading began
abbrev pub FailsDuly : (reads : ℕ) (old : Option (List ℕ)) (failures failures' asked asked' : ℕ)
    → Type 0
FailsDuly reads old failures failures' asked asked' = (told : Option (List ℕ)) (first : ℕ)
    → Spends most_reads told reads old → asked + reads ≡ first + most_reads
    → ReadFaultIsDue told failures failures' first asked'

-- so many of the held bytes were put behind those of the section
pub record Takes (count : ℕ) (old new : Ahead) (before after : List ℕ) : Type 0 where
  pub lines : new ≡ passed count old
  pub section : after ≡ before ++ take count old.held

-- ---- whether the next read may have to wait

-- no read is begun where it may have to wait
abbrev pub KeepsReady : (was is : Bool) → (asked asked' : ℕ) → Type 0
KeepsReady was is asked asked' = IsTrue was → IsTrue is × (asked' ≡ asked)
