use Rattle.sgt_service_agreement.proofs.Counted.{AreMet}
use Rattle.sgt_service_agreement.proofs.agreed.are_counted.Given as goal

abbrev pub invariant-loop-place : goal.invariant-loop-place
invariant-loop-place l = AreMet l.counts l.items l.versions l.place l.met
