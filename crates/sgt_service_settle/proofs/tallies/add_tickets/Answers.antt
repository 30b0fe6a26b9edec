use Rattle.std.proofs.Common.{◌∙◌, ◌++◌, ◌∷◌, [], sym, ap, subst, take, arith, get_or, append_assoc}
use Rattle.std.proofs.lemmas.List.{append-nil, take_all}
use Rattle.std.proofs.lemmas.Option.{slice_get-get_or}
use Rattle.sgt_workers.specs.declared.ticket.Ticket.{Ticket as ATicket}
use Rattle.sgt_service_settle.specs.private.Tickets.{AreTallies}
use Rattle.sgt_service_settle.proofs.Tallying.{tallies_hit, tallies_miss}
use Rattle.sgt_service_settle.proofs.tallies.add_tickets.Goals as goal
use Rattle.sgt_service_settle.proofs.tallies.add_tickets.Goals.{then-number-tallies, else-number-tallies}
use Rattle.sgt_names.proofs.Lists.{element_at, take_next}

pub loop-ticket-init : goal.loop-ticket-init
loop-ticket-init c seen old = subst (AreTallies c.args.tallies.now) (sym (append-nil seen)) old

pub loop-ticket-preserved : goal.loop-ticket-preserved
loop-ticket-preserved c seen old =
    let tickets = c.args.tickets.now in
    let n = c.loop-ticket.ticket-index in
    let t : ATicket = c.ticket-item.result in
    let here = element_at tickets n t c.loop-ticket-test.true c.ticket-item.is in
    let longer = ap (λ xs. seen ++ xs) (take_next tickets n t here)
    ∙ sym (append_assoc seen (take n tickets) (t ∷ [])) in
    let was = c.loop-ticket.invariant seen old in
    elim c.if-number-tallies.branch [
      | then-number-tallies w ↦
          rw w.tallies-is
          (rw longer (tallies_hit c.loop-ticket.tallies (seen ++ take n tickets) t
          (get_or c.loop-ticket.tallies t.number 0) w.one_more.result
          (slice_get-get_or c.loop-ticket.tallies t.number 0 w.if-number-tallies.true) w.one_more.ensures was))
      | else-number-tallies w ↦ rw w.tallies-is
          (rw longer (tallies_miss c.loop-ticket.tallies (seen ++ take n tickets) t w.if-number-tallies.false was))
    ]

pub returns : goal.returns
returns c seen old =
    let whole = take_all c.loop-ticket.ticket-index c.args.tickets.now (omega arith) in
    subst (λ ts. AreTallies c.loop-ticket.tallies (seen ++ ts)) whole (c.loop-ticket.invariant seen old)
