use Rattle.std.proofs.Common.{take}
use Rattle.sgt_workers.specs.declared.ticket.Ticket.{Ticket as ATicket}
use Rattle.sgt_service_settle.specs.Settled.{tickets_of}
use Rattle.sgt_service_settle.specs.private.Words.{IsLeastOf}
use Rattle.sgt_service_settle.specs.private.Tickets.{IsStray}
use Rattle.sgt_service_settle.proofs.tickets.first_stray.Given as goal

abbrev pub invariant-loop-done : goal.invariant-loop-done
invariant-loop-done l =
    IsLeastOf (λ (t : ATicket). t.number) (IsStray l.history) (tickets_of (take l.done-index l.dones)) l.least
