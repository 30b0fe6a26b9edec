use Rattle.std.proofs.Common.{take}
use Rattle.sgt_service_settle.specs.Settled.{tickets_of}
use Rattle.sgt_service_settle.specs.private.Tickets.{AreTallies}
use Rattle.sgt_service_settle.proofs.tallies.tallies.Given as goal

abbrev pub invariant-loop-done : goal.invariant-loop-done
invariant-loop-done l = AreTallies l.tallies.items (tickets_of (take l.done-index l.dones))
