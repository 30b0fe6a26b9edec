use Rattle.std.proofs.Common.{All, take}
use Rattle.sgt_certifier.specs.Counted.{HasPlace, Widens}
use Rattle.sgt_certifier.proofs.counts.Counts.place_each.Given as goal

abbrev pub invariant-loop-item : goal.invariant-loop-item
invariant-loop-item l = record {
  widens : Widens l.initial.self l.self;
  placed : All (HasPlace l.self l.site) (take l.item-index l.items);
}
