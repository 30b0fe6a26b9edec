use Rattle.std.proofs.Common.{All, take}
use Rattle.sgt_certifier.specs.Counted.{HavePlaces, Widens}
use Rattle.sgt_certifier.proofs.counts.Counts.place_lists.Given as goal

abbrev pub invariant-loop-list : goal.invariant-loop-list
invariant-loop-list l = record {
  widens : Widens l.initial.self l.self;
  placed : All (HavePlaces l.self) (take l.list-index l.lists);
}
