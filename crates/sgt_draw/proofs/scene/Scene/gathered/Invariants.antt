use Rattle.std.proofs.Common.{take}
use Rattle.sgt_draw.specs.Gathering.{HoldsAll}
use Rattle.sgt_draw.proofs.scene.Scene.gathered.Given as goal

abbrev pub invariant-loop-number : goal.invariant-loop-number
invariant-loop-number l = HoldsAll l.most (take l.number l.decisions) l.scene
