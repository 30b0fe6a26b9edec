use Rattle.std.proofs.Common.{◌≡◌, take}
use Rattle.std.specs.List.{flat_map}
use Rattle.sgt_certify.specs.Lines.{end_line}
use Rattle.sgt_certify.proofs.telling.end_lines.Given as goal

abbrev pub invariant-loop-step : goal.invariant-loop-step
invariant-loop-step l = l.out.items ≡ flat_map (end_line l.sites) (take l.step-index l.steps)
