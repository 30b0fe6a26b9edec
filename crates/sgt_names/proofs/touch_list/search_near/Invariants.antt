use Rattle.std.proofs.Common.{◌≡◌, ℕ, ◌<◌, ◌≤◌, ◌-◌, length, Some}
use Rattle.std.specs.Prelude.{slice_get}
use Rattle.std.specs.declared.cmp.Ordering.TheVariants.{Less}
use Rattle.sgt_names.specs.Draft.{place_of, place_cmp}
use Rattle.sgt_names.specs.declared.draft.Touch.{Touch}
use Rattle.sgt_names.proofs.touch_list.search_near.Given as goal

-- each that was gone over is in front
abbrev pub invariant-loop-at : goal.invariant-loop-at
invariant-loop-at l = record {
  within : l.at ≤ length l.touched;
  before : (m : ℕ) (a : Touch) → m < l.at → slice_get l.touched m ≡ Some a
      → place_cmp (place_of a) (l.site, l.item) ≡ Less;
}

abbrev pub decreases-loop-at : goal.decreases-loop-at
decreases-loop-at l = length l.touched - l.at
