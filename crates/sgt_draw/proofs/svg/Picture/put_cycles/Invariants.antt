use Rattle.std.proofs.Common.{false, take}
use Rattle.std.specs.List.{flat_map}
use Rattle.sgt_draw.specs.Private.{refused_at}
use Rattle.sgt_draw.specs.Sheet.{Adds}
use Rattle.sgt_draw.proofs.svg.Picture.put_cycles.Given as goal

abbrev pub invariant-loop-number : goal.invariant-loop-number
invariant-loop-number l = Adds (flat_map (refused_at false l.self.decisions.now) (take l.number-index l.refusals)) l.initial.canvas.shown l.canvas.shown
