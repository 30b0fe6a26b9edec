use Rattle.std.proofs.Common.{◌≡◌, ◌<◌, ◌≤◌, ℕ, Some, length}
use Rattle.std.specs.Prelude.{slice_get}
use Rattle.sgt_core_machine.specs.declared.machine.Place.{Place}
use Rattle.sgt_core_machine.specs.Gathered.{IsReleased}
use Rattle.sgt_core_machine.proofs.gathering.release_all.Given as goal

abbrev pub invariant-loop-at : goal.invariant-loop-at
invariant-loop-at l = record {
  long : length l.places.items ≡ length l.fn.places.items;
  done : (k : ℕ) (p q : Place) → k < l.at → slice_get l.fn.places.items k ≡ Some p
      → slice_get l.places.items k ≡ Some q → IsReleased l.tx p q;
  rest : (k : ℕ) → l.at ≤ k → slice_get l.places.items k ≡ slice_get l.fn.places.items k;
}
