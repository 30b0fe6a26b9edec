use Rattle.std.proofs.Common.{map, take}
use Rattle.sgt_draw.specs.Node.{node}
use Rattle.sgt_draw.specs.Sheet.{Adds}
use Rattle.sgt_draw.specs.declared.node.Fate.TheVariants.{Withdrawn}
use Rattle.sgt_draw.proofs.svg.Picture.put_grey.Given as goal

abbrev pub invariant-loop-tx : goal.invariant-loop-tx
invariant-loop-tx l = Adds (map (node Withdrawn) (take l.tx-index l.withdrawn)) l.initial.canvas.shown l.canvas.shown
