use Rattle.std.proofs.Common.{◌∙◌, sym, subst, arith}
use Rattle.std.proofs.lemmas.Bool.{true≢false}
use Rattle.std.proofs.lemmas.List.{take_all}
use Rattle.sgt_workers.specs.declared.ticket.Done.{Done as ADone}
use Rattle.sgt_service_settle.specs.Settled.{Rises}
use Rattle.sgt_service_settle.specs.private.Words.{IsLeastOf}
use Rattle.sgt_service_settle.proofs.Leasts.{least_hit, least_miss}
use Rattle.sgt_service_settle.proofs.tickets.first_unordered.Goals as goal
use Rattle.sgt_service_settle.proofs.tickets.first_unordered.Goals.{then-not-rise, else-not-rise}
use Rattle.sgt_names.proofs.Lists.{element_at, take_next}

pub loop-done-preserved : goal.loop-done-preserved
loop-done-preserved c =
    let dones = c.args.dones.now in
    let n = c.loop-done.done-index in
    let one : ADone = c.done-item.result in
    let here = element_at dones n one c.loop-done-test.true c.done-item.is in
    elim c.if-not-rise.branch [
      | then-not-rise w ↦
          rw w.least-is (rw w.lesser.ensures (rw (take_next dones n one here)
          (least_hit (λ (d : ADone). d.job) (λ (d : ADone). Rises d
          → ⊥) _ one _ (λ rises. true≢false (sym (c.rise.ensures.1 (rw c.as_slice.ensures.value rises))
          ∙ w.if-not-rise.true)) c.loop-done.invariant)))
      | else-not-rise w ↦
          rw w.least-is (rw (take_next dones n one here)
          (least_miss (λ (d : ADone). d.job) (λ (d : ADone). Rises d
          → ⊥) _ one _ (λ not_so. not_so (rw c.as_slice.ensures.value at (c.rise.ensures.0 w.if-not-rise.false)))
          c.loop-done.invariant))
    ]

pub returns : goal.returns
returns c =
    let whole = take_all c.loop-done.done-index c.args.dones.now (omega arith) in
    subst (λ ds. IsLeastOf (λ (d : ADone). d.job) (λ (d : ADone). Rises d → ⊥) ds c.loop-done.least) whole
    c.loop-done.invariant
