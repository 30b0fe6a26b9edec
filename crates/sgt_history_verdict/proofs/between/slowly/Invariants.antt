use Rattle.sgt_history_verdict.proofs.LeastAlong.{AreBestTo}
use Rattle.sgt_history_verdict.proofs.between.slowly.Given as goal

abbrev pub invariant-loop-place : goal.invariant-loop-place
invariant-loop-place l = AreBestTo l.touches l.pairs l.ranks l.lines l.place l.steps.items
