use Rattle.std.proofs.Common.{◌≡◌, ◌≤◌, take, length}
use Rattle.sgt_certifier.specs.Kept.{changed_at}
use Rattle.sgt_certifier.proofs.install.are_changed.Given as goal

abbrev pub invariant-loop-touch : goal.invariant-loop-touch
invariant-loop-touch l = record {
  met : changed_at (take l.touch-index l.touched) l.site ≡ take l.met l.items;
  within : l.met ≤ length l.items;
}
