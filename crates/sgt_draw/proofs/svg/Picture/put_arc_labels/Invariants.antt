use Rattle.std.proofs.Common.{◌≡◌}
use Rattle.sgt_draw.proofs.svg.Picture.put_arc_labels.Given as goal

abbrev pub invariant-loop-laid : goal.invariant-loop-laid
invariant-loop-laid l = l.canvas.shown ≡ l.initial.canvas.shown
