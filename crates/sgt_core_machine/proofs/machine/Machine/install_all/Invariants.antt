use Rattle.std.proofs.Common.{◌≡◌, ◌<◌, length, Some}
use Rattle.sgt_core_machine.specs.Machine.{parts_of, IsSlotOf}
use Rattle.sgt_core_machine.specs.private.Installing.{verdict_of}
use Rattle.sgt_core_machine.proofs.WholeGoing.{AreInstalling}
use Rattle.sgt_core_machine.proofs.machine.Machine.install_all.Given as goal

abbrev pub invariant-loop-at : goal.invariant-loop-at
invariant-loop-at l = record {
  slot : l.at < length l.sites → IsSlotOf (parts_of l.self) l.tx l.slot;
  verdict : l.at < length l.sites → verdict_of l.self.step ≡ Some l.verdict;
  written : AreInstalling (parts_of l.fn.self) (parts_of l.self) l.tx l.sites l.at;
}
