use Rattle.std.proofs.Common.{◌≡◌, ◌∙◌, ◌++◌, ◌∷◌, [], ◌+◌, sym, ap, subst, arith, take, append_assoc, Some}
use Rattle.std.proofs.lemmas.Bool.{true≢false}
use Rattle.std.proofs.lemmas.List.{take_all}
use Rattle.sgt_workers.specs.declared.ticket.Ticket.{Ticket as ATicket}
use Rattle.sgt_service_settle.specs.private.Words.{IsLeastOf, lesser}
use Rattle.sgt_service_settle.specs.private.Tickets.{IsStray}
use Rattle.sgt_service_settle.proofs.Leasts.{least_hit, least_miss}
use Rattle.sgt_service_settle.proofs.tickets.least_stray.Goals as goal
use Rattle.sgt_service_settle.proofs.tickets.least_stray.Goals.{then-not-is_good, else-not-is_good}
use Rattle.sgt_names.proofs.Lists.{element_at, take_next}

pub loop-ticket-preserved : goal.loop-ticket-preserved
loop-ticket-preserved c seen old =
    let tickets = c.args.tickets.now in
    let n = c.loop-ticket.ticket-index in
    let one : ATicket = c.ticket-item.result in
    let here = element_at tickets n one c.loop-ticket-test.true c.ticket-item.is in
    let longer : seen ++ take (n + 1) tickets ≡ (seen ++ take n tickets) ++ one ∷ [] =
    ap (λ xs. seen ++ xs) (take_next tickets n one here) ∙ sym (append_assoc seen (take n tickets) (one ∷ [])) in
    elim c.if-not-is_good.branch [
      | then-not-is_good w ↦
          rw w.least-is
          (rw w.lesser.ensures
          (subst (λ xs. IsLeastOf (λ (t : ATicket). t.number) (IsStray c.args.history.now) xs
          (Some (lesser c.loop-ticket.least one.number))) (sym longer)
          (least_hit (λ (t : ATicket). t.number) (IsStray c.args.history.now) (seen ++ take n tickets) one
          c.loop-ticket.least (λ good. true≢false (sym (c.is_good.ensures.1 good) ∙ w.if-not-is_good.true))
          (c.loop-ticket.invariant seen old))))
      | else-not-is_good w ↦
          rw w.least-is
          (subst (λ xs. IsLeastOf (λ (t : ATicket). t.number) (IsStray c.args.history.now) xs c.loop-ticket.least)
          (sym longer)
          (least_miss (λ (t : ATicket). t.number) (IsStray c.args.history.now) (seen ++ take n tickets) one
          c.loop-ticket.least (λ stray. stray (c.is_good.ensures.0 w.if-not-is_good.false))
          (c.loop-ticket.invariant seen old)))
    ]

pub returns : goal.returns
returns c seen old =
    let whole = take_all c.loop-ticket.ticket-index c.args.tickets.now (omega arith) in
    subst (λ xs. IsLeastOf (λ (t : ATicket). t.number) (IsStray c.args.history.now) (seen ++ xs) c.loop-ticket.least)
    whole (c.loop-ticket.invariant seen old)
