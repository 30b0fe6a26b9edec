use Rattle.std.proofs.Common.{ℕ, ◌<◌, ◌≡◌, Some, suc}
use Rattle.std.specs.Prelude.{slice_get}
use Rattle.sgt_workers.specs.declared.ticket.Ticket.{Ticket as ATicket}
use Rattle.sgt_service_settle.proofs.tickets.rise.Given as goal

abbrev pub invariant-loop-i : goal.invariant-loop-i
invariant-loop-i l = (k : ℕ) (t u : ATicket) → suc k < l.i → slice_get l.tickets k ≡ Some t
    → slice_get l.tickets (suc k) ≡ Some u → t.number < u.number
