use Rattle.std.proofs.Common.{◌≡◌, map, take}
use Rattle.sgt_certifier.specs.Kept.{step_at}
use Rattle.sgt_certifier.proofs.judge.walk_of.Given as goal

abbrev pub invariant-loop-edge : goal.invariant-loop-edge
invariant-loop-edge l = l.steps.items ≡ map (step_at l.before) (take l.edge-index l.edges)
