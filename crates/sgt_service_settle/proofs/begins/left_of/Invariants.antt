use Rattle.std.proofs.Common.{◌≡◌, ◌+◌, length, take}
use Rattle.sgt_service_settle.specs.Settled.{tickets_of}
use Rattle.sgt_service_settle.proofs.begins.left_of.Given as goal

abbrev pub invariant-loop-done : goal.invariant-loop-done
invariant-loop-done l = l.left + length (tickets_of (take l.done-index l.dones)) ≡ l.fn.begun
