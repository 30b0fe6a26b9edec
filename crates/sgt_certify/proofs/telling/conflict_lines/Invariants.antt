use Rattle.std.proofs.Common.{◌≡◌, take}
use Rattle.std.specs.List.{flat_map}
use Rattle.sgt_certify.specs.Lines.{conflict_line}
use Rattle.sgt_certify.proofs.telling.conflict_lines.Given as goal

abbrev pub invariant-loop-step : goal.invariant-loop-step
invariant-loop-step l = l.out.items ≡ flat_map (conflict_line l.sites) (take l.step-index l.steps)
