use Rattle.std.proofs.Common.{◌≡◌, ◌≤◌, ◌<◌, ◌-◌, ℕ, Some, List, length}
use Rattle.std.specs.Prelude.{slice_get, take}
use Rattle.sgt_history.specs.Transaction.{Transaction}
use Rattle.sgt_history_faults.specs.Group.{AreAllFaulty, AreFrontCovered, IsBoundary}
use Rattle.sgt_history_faults.specs.Noted.{Covers, IsReal}
use Rattle.sgt_history_faults.proofs.scanning.judge_touches.Given as goal

abbrev pub invariant-loop-start : goal.invariant-loop-start
invariant-loop-start l = record {
  within : l.start ≤ length l.touches;
  boundary : IsBoundary l.touches l.start;
  kept : (line rank place : ℕ) → Covers l.fn.before line rank place → Covers l.first line rank place;
  covered : AreFrontCovered l.touches l.start l.first;
  real : (h : List (Transaction ℕ ℕ)) → AreAllFaulty h l.touches → IsReal h l.fn.before → IsReal h l.first;
}

abbrev pub decreases-loop-start : goal.decreases-loop-start
decreases-loop-start l = length l.touches - l.start
