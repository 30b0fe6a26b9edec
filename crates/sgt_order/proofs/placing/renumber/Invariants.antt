use Rattle.sgt_order.proofs.Told.{ToldUpTo}
use Rattle.sgt_order.proofs.placing.renumber.Given as goal

abbrev pub invariant-loop-place : goal.invariant-loop-place
invariant-loop-place l = ToldUpTo l.first l.place l.order l.initial.nodes l.nodes
