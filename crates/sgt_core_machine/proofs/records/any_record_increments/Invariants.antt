use Rattle.std.proofs.Common.{◌≡◌, drop}
use Rattle.sgt_bundle.specs.Text.{has_increments}
use Rattle.sgt_core_machine.specs.private.Records.{logs_in}
use Rattle.sgt_core_machine.proofs.records.any_record_increments.Given as goal

-- the rest tells what all tell
abbrev pub invariant-loop-kept : goal.invariant-loop-kept
invariant-loop-kept l = has_increments (logs_in (drop l.kept-index l.records)) ≡ has_increments (logs_in l.records)
