use Rattle.std.proofs.Common.{◌≡◌, drop}
use Rattle.sgt_bundle.specs.Text.{has_increments}
use Rattle.sgt_core_machine.specs.Cut.{logs_at}
use Rattle.sgt_core_machine.proofs.cutting.any_site_increments.Given as goal

-- the rest tells what all tell
abbrev pub invariant-loop-place : goal.invariant-loop-place
invariant-loop-place l = has_increments (logs_at (drop l.place-index l.places)) ≡ has_increments (logs_at l.places)
