use Rattle.sgt_history_verdict.specs.Steps.{IsBest, Leads}
use Rattle.sgt_history_verdict.proofs.along.least_between.Given as goal

abbrev pub invariant-loop-pair : goal.invariant-loop-pair
invariant-loop-pair l = IsBest l.touches l.pairs l.ranks (λ s. Leads s l.from l.to) l.pair-index l.best
