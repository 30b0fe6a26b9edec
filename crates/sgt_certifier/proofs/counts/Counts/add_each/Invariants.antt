use Rattle.std.proofs.Common.{take}
use Rattle.sgt_certifier.specs.Counted.{CountsEach}
use Rattle.sgt_certifier.proofs.counts.Counts.add_each.Given as goal

abbrev pub invariant-loop-item : goal.invariant-loop-item
invariant-loop-item l = CountsEach l.site (take l.item-index l.items) l.initial.self l.self
