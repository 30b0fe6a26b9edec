use Rattle.std.proofs.Common.{◌++◌, sym, subst, arith, take}
use Rattle.std.proofs.lemmas.List.{take_all}
use Rattle.sgt_workers.specs.declared.ticket.Ticket.{Ticket as ATicket}
use Rattle.sgt_service_settle.specs.Settled.{tickets_of}
use Rattle.sgt_service_settle.specs.private.Words.{IsLeastOf}
use Rattle.sgt_service_settle.specs.private.Tickets.{IsStray}
use Rattle.sgt_service_settle.proofs.Tallying.{tickets_on}
use Rattle.sgt_names.proofs.Lists.{element_at}
use Rattle.sgt_service_settle.proofs.tickets.first_stray.Goals as goal

pub loop-done-preserved : goal.loop-done-preserved
loop-done-preserved c =
    let dones = c.args.dones.now in
    let n = c.loop-done.done-index in
    let here = element_at dones n c.done-item.result c.loop-done-test.true c.done-item.is in
    subst (λ xs. IsLeastOf (λ (t : ATicket). t.number) (IsStray c.args.history.now) xs c.least_stray-least.result)
    (sym (tickets_on dones n c.done-item.result here))
    (subst (λ xs. IsLeastOf (λ (t : ATicket). t.number) (IsStray c.args.history.now) (tickets_of (take n dones) ++ xs)
    c.least_stray-least.result) c.as_slice.ensures.value
    (c.least_stray-least.ensures (tickets_of (take n dones)) c.loop-done.invariant))

pub returns : goal.returns
returns c =
    let whole = take_all c.loop-done.done-index c.args.dones.now (omega arith) in
    subst (λ ds. IsLeastOf (λ (t : ATicket). t.number) (IsStray c.args.history.now) (tickets_of ds) c.loop-done.least)
    whole c.loop-done.invariant
