use Rattle.sgt_history_kept.proofs.Risings.{StandTo}
use Rattle.sgt_history_kept.proofs.rising.times_rise.Given as goal

abbrev pub invariant-loop-line : goal.invariant-loop-line
invariant-loop-line l = StandTo l.moments.begins.items l.moments.most.items l.times l.left l.right l.line
