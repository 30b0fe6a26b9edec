use Rattle.std.proofs.Common.{◌≡◌, ◌≤◌, ◌<◌, ℕ, length, Some}
use Rattle.std.specs.Prelude.{slice_get, All}
use Rattle.sgt_history_faults.specs.declared.touch.Touch.{Touch}
use Rattle.sgt_history_faults.specs.Touch.{IsMarkOf, IsTouchBelow}
use Rattle.sgt_history_faults.proofs.touching.mark_surpassed.Given as goal

abbrev pub invariant-loop-k : goal.invariant-loop-k
invariant-loop-k l = record {
  size : length l.touches.items ≡ length l.fn.touches.items;
  before : (k : ℕ) → k < l.from → slice_get l.touches.items k ≡ slice_get l.fn.touches.items k;
  done : (k : ℕ) (a b : Touch) → l.from ≤ k → k < l.k → slice_get l.fn.touches.items k ≡ Some a
      → slice_get l.touches.items k ≡ Some b
      → IsMarkOf l.mine a b;
  rest : (k : ℕ) → l.k ≤ k → slice_get l.touches.items k ≡ slice_get l.fn.touches.items k;
}
