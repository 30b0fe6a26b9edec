use Rattle.sgt_history_time.proofs.InTime.{InTime}
use Rattle.sgt_history_time.proofs.order_checks.keeps_real_time.Given as goal

abbrev pub invariant-loop-at : goal.invariant-loop-at
invariant-loop-at l = InTime l.order l.times l.at l.latest
