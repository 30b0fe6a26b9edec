use Rattle.std.proofs.Common.{◌≡◌, ◌<◌, ℕ, Some, vec_len}
use Rattle.std.specs.Prelude.{slice_get}
use Rattle.sgt_certifier.proofs.ranking.rank_all.Given as goal

abbrev pub invariant-loop-place : goal.invariant-loop-place
invariant-loop-place l = record {
  ranks : (k tx : ℕ) → k < l.place → slice_get l.serial k ≡ Some tx → slice_get l.ranks.items tx ≡ Some k;
  len : vec_len l.ranks ≡ vec_len l.fn.ranks;
}
