use Rattle.std.proofs.Common.{take}
use Rattle.sgt_graph.specs.Nearest.{IsNearest}
use Rattle.sgt_graph.proofs.nearest.nearest.Given as goal

abbrev pub invariant-loop-target : goal.invariant-loop-target
invariant-loop-target l = IsNearest l.distances (take l.target-index l.targets) l.best
