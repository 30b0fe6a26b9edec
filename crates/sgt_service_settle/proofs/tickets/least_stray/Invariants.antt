use Rattle.std.proofs.Common.{take, List, ◌++◌}
use Rattle.sgt_workers.specs.declared.ticket.Ticket.{Ticket as ATicket}
use Rattle.sgt_service_settle.specs.private.Words.{IsLeastOf}
use Rattle.sgt_service_settle.specs.private.Tickets.{IsStray}
use Rattle.sgt_service_settle.proofs.tickets.least_stray.Given as goal

abbrev pub invariant-loop-ticket : goal.invariant-loop-ticket
invariant-loop-ticket l = (seen : List ATicket)
    → IsLeastOf (λ (t : ATicket). t.number) (IsStray l.history) seen l.initial.least
    → IsLeastOf (λ (t : ATicket). t.number) (IsStray l.history) (seen ++ take l.ticket-index l.tickets) l.least
