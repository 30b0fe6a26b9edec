use Rattle.std.proofs.Common.{◌≡◌, take, None}
use Rattle.sgt_names.specs.Draft.{touched_at}
use Rattle.sgt_core_machine.proofs.looking.find_among.Given as goal

abbrev pub invariant-loop-touch : goal.invariant-loop-touch
invariant-loop-touch l = touched_at (take l.touch-index l.touched) (l.site, l.item) ≡ None
