-- The history that a `History` keeps.
use Rattle.std.specs.Prelude.{ℕ, List, drop}
use Rattle.sgt_history.specs.declared.history.History.{History}
use Rattle.sgt_history.specs.declared.history.Operation.{Operation}
use Rattle.sgt_history.specs.Transaction.{Transaction}
use Rattle.sgt_history.specs.Cut.{cut, end_of}

-- the transactions of its lines
abbrev pub closed_of : History → List (Transaction ℕ ℕ)
closed_of h = cut 0 h.lines.items h.operations.items

-- the operations behind them
abbrev pub open_of : History → List (Operation ℕ ℕ)
open_of h = drop (end_of 0 h.lines.items) h.operations.items
