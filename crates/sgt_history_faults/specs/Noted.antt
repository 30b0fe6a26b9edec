-- The first of the faults that were met.
use Rattle.std.specs.Prelude.{ℕ, List, Option, None, Some}
use Rattle.sgt_history.specs.Flaws.{IsFaulty, IsToldFirst, rank_of}
use Rattle.sgt_history.specs.Transaction.{Transaction}
use Rattle.sgt_history_faults.specs.declared.fault.Fault.{Fault}

-- a fault was met that is told before one like that, or is it
abbrev pub Covers : Option Fault → (line rank place : ℕ) → Type 0
Covers None line rank place = ⊥
Covers (Some f) line rank place = IsToldFirst f.line (rank_of f.flaw) f.place line rank place

-- what was met is a fault of the history
abbrev pub IsReal : List (Transaction ℕ ℕ) → Option Fault → Type 0
IsReal h None = Unit {0}
IsReal h (Some f) = IsFaulty h f.line f.flaw f.place
