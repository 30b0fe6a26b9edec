use Rattle.sgt_history_kept.proofs.Risings.{Raised}
use Rattle.sgt_history_kept.proofs.rising.sessions_rise.Given as goal

abbrev pub invariant-loop-line : goal.invariant-loop-line
invariant-loop-line l = Raised l.sessions l.left l.right l.most.items l.line
