use Rattle.std.proofs.Common.{map, take}
use Rattle.sgt_draw.specs.Private.{row_node}
use Rattle.sgt_draw.specs.Sheet.{Adds}
use Rattle.sgt_draw.proofs.svg.Picture.put_row.Given as goal

abbrev pub invariant-loop-one : goal.invariant-loop-one
invariant-loop-one l = Adds (map (row_node l.asked) (take l.one-index l.committed)) l.initial.canvas.shown l.canvas.shown
