use Rattle.sgt_history_kept.proofs.Passing.{AreSeen}
use Rattle.sgt_history_kept.proofs.passed.first_unkept.Given as goal

abbrev pub invariant-loop-place : goal.invariant-loop-place
invariant-loop-place l = AreSeen l.order l.asked l.place l.latest l.last.items
