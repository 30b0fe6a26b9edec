use Rattle.sgt_history_kept.proofs.drawing.draw_ends.Goals as goal
use Rattle.sgt_history_kept.proofs.drawing.draw_ends.Goals.{in-Some+then-next-begins+in_ok-join, in-Some+else-next-begins, in_default}

pub loop-at-preserved : goal.loop-at-preserved
loop-at-preserved c = elim c.match-times-at.branch [
  | in-Some+then-next-begins+in_ok-join w ↦ rw w.edges-is (λ all. w.join.ensures (c.loop-at.invariant all))
  | in-Some+else-next-begins w ↦ rw w.edges-is c.loop-at.invariant
  | in_default w ↦ rw w.edges-is c.loop-at.invariant
]
