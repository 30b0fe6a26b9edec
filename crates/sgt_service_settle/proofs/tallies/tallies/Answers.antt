use Rattle.std.proofs.Common.{◌≡◌, ◌+◌, sym, ap, subst, take, arith, length}
use Rattle.std.proofs.lemmas.List.{take_all}
use Rattle.sgt_service_settle.specs.Settled.{tickets_of}
use Rattle.sgt_service_settle.specs.private.Tickets.{AreTallies}
use Rattle.sgt_service_settle.proofs.Rowing.{written_back}
use Rattle.sgt_service_settle.proofs.Tallying.{tickets_on}
use Rattle.sgt_names.proofs.Lists.{element_at}
use Rattle.sgt_service_settle.proofs.tallies.tallies.Goals as goal

pub loop-done-preserved : goal.loop-done-preserved
loop-done-preserved c =
    let dones = c.args.dones.now in
    let n = c.loop-done.done-index in
    let here = element_at dones n c.done-item.result c.loop-done-test.true c.done-item.is in
    let old = c.loop-done.tallies in
    let new = c.add_tickets.new.tallies in
    let same : length new ≡ length c.as_mut_slice.result.now = c.add_tickets.auto.tallies in
    let long : length c.as_mut_slice.result.now ≡ length old.items = ap length c.as_mut_slice.ensures.value in
    let back = written_back old.items new old.len (omega (arith, old.ok.0, same, long)) in
    let added = rw c.as_mut_slice.ensures.value at (rw c.as_slice.ensures.value at c.add_tickets.ensures) in
    subst (λ ts. AreTallies ts (tickets_of (take (n + 1) dones))) (sym back)
    (subst (AreTallies new) (sym (tickets_on dones n c.done-item.result here))
    (added (tickets_of (take n dones)) c.loop-done.invariant))

pub returns : goal.returns
returns c =
    let whole = take_all c.loop-done.done-index c.args.dones.now (omega arith) in
    subst (λ ds. AreTallies c.loop-done.tallies.items (tickets_of ds)) whole c.loop-done.invariant
