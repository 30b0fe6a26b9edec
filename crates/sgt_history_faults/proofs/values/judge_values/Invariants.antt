use Rattle.std.proofs.Common.{◌≡◌, ◌≤◌, ℕ, List, length}
use Rattle.sgt_history.specs.Transaction.{Transaction}
use Rattle.sgt_history_faults.specs.Given.{AreOthersCovered, AreOthersFaulty}
use Rattle.sgt_history_faults.specs.Noted.{Covers, IsReal}
use Rattle.sgt_history_faults.proofs.values.judge_values.Given as goal

abbrev pub invariant-loop-k : goal.invariant-loop-k
invariant-loop-k l = record {
  kept : (line rank place : ℕ) → Covers l.fn.before line rank place → Covers l.first line rank place;
  covered : AreOthersCovered l.given l.k l.first;
  real : (h : List (Transaction ℕ ℕ)) → AreOthersFaulty h l.given → IsReal h l.fn.before → IsReal h l.first;
}
