use Rattle.sgt_history_time.proofs.InSessions.{InSessions}
use Rattle.sgt_history_time.proofs.order_checks.keeps_sessions.Given as goal

abbrev pub invariant-loop-at : goal.invariant-loop-at
invariant-loop-at l = InSessions l.order l.sessions l.at l.last.items
