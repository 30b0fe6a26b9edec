use Rattle.std.proofs.Common.{◌≡◌, ℕ, ◌<◌, false, Some, Contains}
use Rattle.std.specs.Prelude.{slice_get}
use Rattle.std.specs.BTreeSet.{contains}
use Rattle.std.specs.Ordering.{nat_cmp}
use Rattle.sgt_certify_stuck.specs.Apart.{HasTx}
use Rattle.sgt_certify_stuck.proofs.sets.others_of.Given as goal

abbrev pub invariant-loop-tx : goal.invariant-loop-tx
invariant-loop-tx l = record {
  has : (k t : ℕ) → k < l.tx-index → slice_get l.txs k ≡ Some t → contains nat_cmp l.met t ≡ false → HasTx l.set t;
  only : (t : ℕ) → HasTx l.set t → Contains l.txs t × (contains nat_cmp l.met t ≡ false);
}
