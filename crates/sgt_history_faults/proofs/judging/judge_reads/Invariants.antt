use Rattle.std.proofs.Common.{◌≡◌, ◌≤◌, ◌<◌, ℕ, Some, List, length}
use Rattle.std.specs.Prelude.{slice_get, take}
use Rattle.sgt_history.specs.Transaction.{Transaction}
use Rattle.sgt_history_faults.specs.declared.touch.Touch.{Touch}
use Rattle.sgt_history_faults.specs.Group.{AreCovered, AreEarlier, AreFaulty}
use Rattle.sgt_history_faults.specs.Noted.{Covers, IsReal}
use Rattle.sgt_history_faults.proofs.judging.judge_reads.Given as goal

abbrev pub invariant-loop-read : goal.invariant-loop-read
invariant-loop-read l = record {
  within : l.at ≤ length l.writes;
  earlier : (k : ℕ) (e : Touch) → l.read-index ≤ k → slice_get l.reads k ≡ Some e → AreEarlier l.writes l.at e.line;
  kept : (line rank place : ℕ) → Covers l.fn.before line rank place → Covers l.first line rank place;
  covered : AreCovered l.writes (take l.read-index l.reads) l.first;
  real : (h : List (Transaction ℕ ℕ)) → AreFaulty h l.writes l.reads → IsReal h l.fn.before → IsReal h l.first;
}
