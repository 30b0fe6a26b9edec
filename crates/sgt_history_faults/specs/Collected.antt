-- The touches of the first lines of a history, and the first of what contradicts its own transaction.
use Rattle.std.specs.Prelude.{◌≡◌, ℕ, ◌<◌, List, Option, Some, slice_get, All}
use Rattle.sgt_history.specs.declared.history.Operation.{Operation}
use Rattle.sgt_history.specs.Transaction.{Transaction}
use Rattle.sgt_history.specs.Conflicts.{IsOperation}
use Rattle.sgt_history_faults.specs.declared.fault.Fault.{Fault}
use Rattle.sgt_history_faults.specs.declared.touch.Touch.{Touch}
use Rattle.sgt_history_faults.specs.Mine.{ContradictsOwn}
use Rattle.sgt_history_faults.specs.Noted.{Covers, IsReal}
use Rattle.sgt_history_faults.specs.Touch.{IsTouch, IsToTouch, IsTouched, IsTouchBelow}

pub record IsCollected (h : List (Transaction ℕ ℕ)) (n items : ℕ) (touches : List Touch) (first : Option Fault) : Type
    0 where
  pub each : All (IsTouch h) touches
  pub below : All (IsTouchBelow items) touches
  pub all : (line place : ℕ) (t : Transaction ℕ ℕ) (o : Operation ℕ ℕ) → line < n → slice_get h line ≡ Some t
      → slice_get t.operations place ≡ Some o → IsToTouch t.commits t.operations place o → IsTouched touches line place
  pub real : IsReal h first
  pub covered : (line place : ℕ) (t : Transaction ℕ ℕ) (o : Operation ℕ ℕ) → line < n → IsOperation h line place t o
      → ContradictsOwn t.operations place o → Covers first line 0 place
