use Rattle.sgt_history_verdict.proofs.Stepping.{AreAlongTo}
use Rattle.sgt_history_verdict.proofs.along.steps_along.Given as goal

abbrev pub invariant-loop-place : goal.invariant-loop-place
invariant-loop-place l = AreAlongTo l.touches l.pairs l.ranks l.lines l.place l.steps.items
