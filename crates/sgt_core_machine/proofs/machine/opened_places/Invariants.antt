use Rattle.std.proofs.Common.{take}
use Rattle.std.specs.Prelude.{All, IsTrue}
use Rattle.sgt_site.specs.State.{AreItems}
use Rattle.sgt_core_machine.specs.Machine.{AreOpened}
use Rattle.sgt_core_machine.proofs.machine.opened_places.Given as goal

abbrev pub invariant-loop-i : goal.invariant-loop-i
invariant-loop-i l = record {
  items : All AreItems (take l.i l.sites);
  opened : IsTrue l.has_room → AreOpened (take l.i l.sites) l.places.items;
}
