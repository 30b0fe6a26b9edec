use Rattle.sgt_history_kept.proofs.drawing.draw_sessions.Goals as goal
use Rattle.sgt_history_kept.proofs.drawing.draw_sessions.Goals.{then-before-session+in_ok-join, else-before-session}

pub loop-at-preserved : goal.loop-at-preserved
loop-at-preserved c = elim c.if-before-session.branch [
  | then-before-session+in_ok-join w ↦ rw w.edges-is (λ all. w.join.ensures (c.loop-at.invariant all))
  | else-before-session w ↦ rw w.edges-is c.loop-at.invariant
]
