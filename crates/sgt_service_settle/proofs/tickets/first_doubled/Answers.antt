use Rattle.std.proofs.Common.{◌≡◌, ◌≤◌, subst, arith, inl, inr}
use Rattle.std.proofs.lemmas.Bool.{cases_lt}
use Rattle.sgt_service_settle.specs.Settled.{count_of, tickets_of}
use Rattle.sgt_service_settle.proofs.tickets.first_doubled.Goals as goal

pub loop-number-preserved : goal.loop-number-preserved
loop-number-preserved c j low =
    elim (cases_lt j c.loop-number.number) [
      | inl early ↦ c.loop-number.invariant j early
      | inr late ↦
          let same : c.loop-number.number ≡ j = omega (arith, late, low) in
          subst (λ k. count_of k (tickets_of c.args.dones.now) ≤ 1) same
          (omega (arith, c.tally.ensures, c.if-tally-eq2.false))
    ]
