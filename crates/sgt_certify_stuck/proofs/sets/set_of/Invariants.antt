use Rattle.std.proofs.Common.{◌≡◌, ℕ, ◌<◌, Some, Contains}
use Rattle.std.specs.Prelude.{slice_get}
use Rattle.sgt_certify_stuck.specs.Apart.{HasTx}
use Rattle.sgt_certify_stuck.proofs.sets.set_of.Given as goal

abbrev pub invariant-loop-tx : goal.invariant-loop-tx
invariant-loop-tx l = record {
  has : (k t : ℕ) → k < l.tx-index → slice_get l.txs k ≡ Some t → HasTx l.set t;
  only : (t : ℕ) → HasTx l.set t → Contains l.txs t;
}
