use Rattle.std.proofs.Common.{◌≡◌}
use Rattle.sgt_draw.proofs.dot.Graph.put_edges.Given as goal

abbrev pub invariant-loop-edge : goal.invariant-loop-edge
invariant-loop-edge l = l.canvas.shown ≡ l.initial.canvas.shown
