use Rattle.std.proofs.Common.{◌≡◌, ℕ, ◌<◌, Some}
use Rattle.std.specs.Prelude.{slice_get}
use Rattle.sgt_certify_stuck.specs.Onward.{StandsAt}
use Rattle.sgt_certify_stuck.proofs.onward.places_of.Given as goal

abbrev pub invariant-loop-place : goal.invariant-loop-place
invariant-loop-place l = record {
  last : (t i : ℕ) → StandsAt l.places t i
      → (i < l.place) × (slice_get l.order i ≡ Some t) × ((j : ℕ) → i < j → j < l.place → slice_get l.order j ≡ Some t
      → ⊥);
  all : (k t : ℕ) → k < l.place → slice_get l.order k ≡ Some t → (i : ℕ) × StandsAt l.places t i;
}
