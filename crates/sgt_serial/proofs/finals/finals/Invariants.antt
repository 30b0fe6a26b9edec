use Rattle.std.proofs.Common.{◌≡◌, map}
use Rattle.std.specs.Prelude.{slice_get}
use Rattle.std.specs.List.{flat_map, range_with_len}
use Rattle.sgt_serial.specs.Report.{final_at, finals_at}
use Rattle.sgt_serial.proofs.finals.finals.Given as goal

abbrev pub invariant-loop-number : goal.invariant-loop-number
invariant-loop-number l = l.finals.items ≡ flat_map (λ s. map (final_at s) (finals_at (slice_get l.sites s)))
    (range_with_len 0 l.number)
