use Rattle.std.proofs.Common.{◌≡◌, ◌++◌}
use Rattle.std.specs.List.{filter}
use Rattle.sgt_serial.specs.private.Grouped.{entries_in}
use Rattle.sgt_serial.specs.private.Operations.{all_entries, is_by}
use Rattle.sgt_serial.proofs.operations.Operations.of.Given as goal

-- what was gathered, and what is still to come
abbrev pub invariant-loop-place : goal.invariant-loop-place
invariant-loop-place l = l.own.items ++ entries_in l.logs l.self l.place l.place-end ≡ filter (is_by l.fn.tx)
    (all_entries l.logs)
