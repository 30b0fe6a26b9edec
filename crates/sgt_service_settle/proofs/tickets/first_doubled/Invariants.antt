use Rattle.std.proofs.Common.{ℕ, ◌<◌, ◌≤◌}
use Rattle.sgt_service_settle.specs.Settled.{count_of, tickets_of}
use Rattle.sgt_service_settle.proofs.tickets.first_doubled.Given as goal

abbrev pub invariant-loop-number : goal.invariant-loop-number
invariant-loop-number l = (j : ℕ) → j < l.number → count_of j (tickets_of l.dones) ≤ 1
