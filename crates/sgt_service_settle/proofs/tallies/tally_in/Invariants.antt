use Rattle.std.proofs.Common.{take, ◌≡◌}
use Rattle.std.specs.Prelude.{min}
use Rattle.sgt_service_settle.specs.Settled.{count_of, tickets_of}
use Rattle.sgt_service_settle.proofs.tallies.tally_in.Given as goal

abbrev pub invariant-loop-done : goal.invariant-loop-done
invariant-loop-done l = l.tally ≡ min 2 (count_of l.number (tickets_of (take l.done-index l.dones)))
