use Rattle.std.proofs.Common.{None, [], ◌∷◌, take, arith, sym, ◌∙◌, ap}
use Rattle.std.specs.List.{last_or}
use Rattle.sgt_names.proofs.Lists.{element_at, take_next, last_or-append}
use Rattle.sgt_service.proofs.report.last_of.Goals as goal

pub loop-ticket-preserved : goal.loop-ticket-preserved
loop-ticket-preserved c =
    let here = element_at c.args.tickets.now c.loop-ticket.ticket-index c.ticket-item.result
    (omega arith) c.ticket-item.is in
    let step = take_next c.args.tickets.now c.loop-ticket.ticket-index c.ticket-item.result here in
    let tickets = take c.loop-ticket.ticket-index c.args.tickets.now in
    sym (ap (last_or None) step ∙ last_or-append None tickets (c.ticket-item.result ∷ []))
