use Rattle.std.proofs.Common.{◌≡◌, ◌++◌, length}
use Rattle.sgt_core_machine.specs.Cut.{logs_at}
use Rattle.sgt_core_machine.specs.private.Records.{logs_in}
use Rattle.sgt_core_machine.proofs.records.records_from.Given as goal

-- the records so far
abbrev pub invariant-loop-place : goal.invariant-loop-place
invariant-loop-place l = logs_in l.records.items ≡ logs_at l.yielded
