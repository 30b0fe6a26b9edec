use Rattle.sgt_history_kept.proofs.drawing.draw_begins.Goals as goal
use Rattle.sgt_history_kept.proofs.drawing.draw_begins.Goals.{then-at-begins+in_ok-join-2, else-at-begins}

pub loop-at-preserved : goal.loop-at-preserved
loop-at-preserved c = elim c.if-at-begins.branch [
  | then-at-begins+in_ok-join-2 w ↦ rw w.edges-is
      (λ all. w.join-then-at-begins.ensures (c.join.ensures (c.loop-at.invariant all)))
  | else-at-begins w ↦ rw w.edges-is (λ all. c.join.ensures (c.loop-at.invariant all))
]
