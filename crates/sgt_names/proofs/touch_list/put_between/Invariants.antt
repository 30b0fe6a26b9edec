use Rattle.std.proofs.Common.{◌≡◌, ◌<◌, ◌≤◌, ◌-◌, length, take}
use Rattle.std.specs.List.{insert}
use Rattle.sgt_names.specs.declared.draft.Touch.{Touch}
use Rattle.sgt_names.proofs.touch_list.put_between.Given as goal

-- some item stands at the place, among those before the last
abbrev pub invariant-loop-place : goal.invariant-loop-place
invariant-loop-place l = record {
  from : l.at ≤ l.place;
  within : l.place < length l.fn.touched;
  there : (y : Touch) × (l.touched ≡ insert (take (length l.fn.touched - 1) l.fn.touched) l.place y);
}

abbrev pub decreases-loop-place : goal.decreases-loop-place
decreases-loop-place l = l.place
