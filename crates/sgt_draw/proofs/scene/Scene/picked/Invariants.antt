use Rattle.std.proofs.Common.{◌≡◌, ℕ, All, Contains, Some, take}
use Rattle.std.specs.Prelude.{slice_get}
use Rattle.sgt_draw.specs.declared.scene.Numbered.{Numbered}
use Rattle.sgt_draw.proofs.scene.Scene.picked.Given as goal

abbrev pub invariant-loop-place : goal.invariant-loop-place
invariant-loop-place l = record {
  own : (place : ℕ) (c : Numbered) → Contains (take l.place-index l.places) place
      → slice_get l.committed place ≡ Some c → Contains l.scene.committed.items c;
  others : All (Contains l.committed) l.scene.committed.items;
}
