use Rattle.std.proofs.Common.{◌≡◌, take}
use Rattle.sgt_certifier.specs.Kept.{changed_at}
use Rattle.sgt_certifier.proofs.install.changed_items.Given as goal

abbrev pub invariant-loop-touch : goal.invariant-loop-touch
invariant-loop-touch l = l.items.items ≡ changed_at (take l.touch-index l.touched) l.site
