use Rattle.std.proofs.Common.{ℕ, List, ap, arith, inl, inr, refl, subst, vec_len}
use Rattle.std.proofs.lemmas.Result.{IfErr-weaker}
use Rattle.sgt_workers.specs.declared.ticket.Done.{Done}
use Rattle.sgt_service_agreement.specs.declared.fault.ServiceFault.{ServiceFault}
use Rattle.sgt_service_locks.specs.declared.seat.Seat.{Seat}
use Rattle.sgt_service_settle.specs.Settled.{AreKept, AreTickets, Run}
use Rattle.sgt_service_settle.specs.Fault.{IsUnsettled}
use Rattle.sgt_service.specs.Bundle.{ArePutInOrder, IsLeftOf, IsRefused, IsToldAlone, run_of}
use Rattle.sgt_service.proofs.Faults.{alone_told, fault_in, memory_told}
use Rattle.sgt_service.proofs.settled.settle.Goals as goal

refuses : {L : Type 0} (sites parts : ℕ) (seats : List (Seat L)) (given dones : List Done) (r : Run)
    → ArePutInOrder given dones
    → IsLeftOf sites parts seats dones r → AreKept r → (f : ServiceFault) → IsUnsettled r f
    → (told : List Done) × ArePutInOrder given told × IsRefused sites parts seats told f
refuses sites parts seats given dones r order left kept f unsettled = (dones, order, inl (r, left, kept, unsettled))

pub returns-in-Ok-clause-refused : goal.returns-in-Ok-clause-refused
returns-in-Ok-clause-refused g c =
    let opened = c.in-Ok.opened in
    let dones = c.put_in_order-told.result.items in
    IfErr-weaker c.of_opened.result _ _
    (refuses (vec_len c.args.service.names) _ c.args.seats.items c.args.dones.items dones (run_of opened dones)
    c.put_in_order-told.ensures (record {
      told = refl;
      many = omega (arith, opened.sites.ok.0, c.in-Ok.ensures.sites);
      counted = c.in-Ok.ensures.counts;
      decided = c.in-Ok.ensures.decisions;
    }) c.of_opened.ensures.kept)
    c.of_opened.ensures.refused

pub returns-in-Err-clause-refused : goal.returns-in-Err-clause-refused
returns-in-Err-clause-refused g c =
    let certifier = c.in-Err.certifier in
    let told = c.check_told in
    let alone = alone_told certifier c.as_slice.result.now told.result c.told_alone.result told.ensures.ok
    told.ensures.err c.told_alone.ensures in (
      c.put_in_order-told.result.items,
      c.put_in_order-told.ensures,
      inr (
        certifier,
        c.in-Err.ensures.unopened,
        told.ensures.replays,
        subst (λ (ds : List Done). IsToldAlone certifier ds c.told_alone.result) c.as_slice.ensures.value alone,
      ),
    )

pub returns-in-Err-clause-memory : goal.returns-in-Err-clause-memory
returns-in-Err-clause-memory g c want =
    let certifier = c.in-Err.certifier in
    let told = c.check_told in
    let good = memory_told certifier c.as_slice.result.now told.result c.told_alone.result told.ensures.ok
    told.ensures.memory c.told_alone.ensures (ap fault_in want) in (
      certifier,
      c.put_in_order-told.result.items,
      told.ensures.replays,
      c.put_in_order-told.ensures,
      subst (λ (ds : List Done). AreTickets certifier.state.rulings ds) c.as_slice.ensures.value good,
    )
