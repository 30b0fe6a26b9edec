use Rattle.sgt_history_kept.proofs.Risings.{RiseTo}
use Rattle.sgt_history_kept.proofs.rising.are_rising.Given as goal

abbrev pub invariant-loop-at : goal.invariant-loop-at
invariant-loop-at l = RiseTo l.numbers l.at
