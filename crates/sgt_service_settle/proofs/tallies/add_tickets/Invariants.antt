use Rattle.std.proofs.Common.{◌++◌, List, take}
use Rattle.sgt_workers.specs.declared.ticket.Ticket.{Ticket as ATicket}
use Rattle.sgt_service_settle.specs.private.Tickets.{AreTallies}
use Rattle.sgt_service_settle.proofs.tallies.add_tickets.Given as goal

abbrev pub invariant-loop-ticket : goal.invariant-loop-ticket
invariant-loop-ticket l = (seen : List ATicket) → AreTallies l.fn.tallies seen
    → AreTallies l.tallies (seen ++ take l.ticket-index l.tickets)
