use Rattle.std.proofs.Common.{◌≡◌, ◌<◌, ℕ, Some, List}
use Rattle.std.specs.Prelude.{slice_get, take}
use Rattle.sgt_history.specs.Transaction.{Transaction}
use Rattle.sgt_history_faults.specs.Group.{AreCovered, AreFaulty}
use Rattle.sgt_history_faults.specs.Noted.{Covers, IsReal}
use Rattle.sgt_history_faults.proofs.judging.judge_writes.Given as goal

abbrev pub invariant-loop-write : goal.invariant-loop-write
invariant-loop-write l = record {
  kept : (line rank place : ℕ) → Covers l.fn.before line rank place → Covers l.first line rank place;
  covered : AreCovered l.writes (take l.write-index l.writes) l.first;
  real : (h : List (Transaction ℕ ℕ)) → AreFaulty h l.writes l.writes → IsReal h l.fn.before → IsReal h l.first;
}
