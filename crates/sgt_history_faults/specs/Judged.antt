-- What a history is judged to be: its first fault, or that it has none.
use Rattle.std.specs.Prelude.{◌≡◌, ℕ, List, Option, None, Some}
use Rattle.sgt_history.specs.declared.history.Operation.{Operation}
use Rattle.sgt_history.specs.Transaction.{Transaction}
use Rattle.sgt_history.specs.Conflicts.{IsOperation}
use Rattle.sgt_history.specs.Flaws.{IsFaultless, IsFirstFault, IsOtherValue}
use Rattle.sgt_history_faults.specs.declared.fault.Fault.{Fault}
use Rattle.sgt_history_faults.specs.declared.first.Judged.{Judged}
use Rattle.sgt_history_faults.specs.declared.first.Judged.TheVariants.{Faulty, Faultless}
use Rattle.sgt_history_faults.specs.declared.touch.Touch.{Touch}
use Rattle.sgt_history_faults.specs.Mine.{ContradictsOwn}
use Rattle.sgt_history_faults.specs.Noted.{Covers, IsReal}
use Rattle.sgt_history_faults.specs.Order.{AreInOrder}
use Rattle.sgt_history_faults.specs.Touch.{AreTouches}

-- each fault of a value is covered
abbrev pub CoversValues : List (Transaction ℕ ℕ) → Option Fault → Type 0
CoversValues h first = (line place : ℕ) (t : Transaction ℕ ℕ) (o : Operation ℕ ℕ) → IsOperation h line place t o
    → IsOtherValue h line place o
    → Covers first line 5 place

-- no line has a fault, and the touches are those of the history, in order
pub record IsFaultlessBy (h : List (Transaction ℕ ℕ)) (touches : List Touch) : Type 0 where
  pub faultless : IsFaultless h
  pub touches_are : AreTouches h touches
  pub ordered : AreInOrder touches

-- it is the first fault of the history, or the history has none
abbrev pub IsJudged : List (Transaction ℕ ℕ) → Judged → Type 0
IsJudged h (Faulty f) = IsFirstFault h f.line f.flaw f.place
IsJudged h (Faultless touches) = IsFaultlessBy h touches.items

-- the touches are those of the history, and each fault that isn't found by them is covered by one of the history
pub record IsReadyFor (h : List (Transaction ℕ ℕ)) (touches : List Touch) (before : Option Fault) : Type 0 where
  pub touches_are : AreTouches h touches
  pub real : IsReal h before
  pub values : CoversValues h before
  pub own : (line place : ℕ) (t : Transaction ℕ ℕ) (o : Operation ℕ ℕ) → IsOperation h line place t o
      → ContradictsOwn t.operations place o
      → Covers before line 0 place
