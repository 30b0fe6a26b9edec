use Rattle.std.proofs.Common.{◌≡◌, map}
use Rattle.std.specs.List.{flat_map, range_with_len}
use Rattle.sgt_bundle.specs.Serial.{entries_of}
use Rattle.sgt_serial.specs.private.Operations.{entry_at}
use Rattle.sgt_serial.proofs.sorted.Sorted.new.Given as goal

abbrev pub invariant-loop-number : goal.invariant-loop-number
invariant-loop-number l = l.entries.items ≡ flat_map (λ s. map (entry_at s) (entries_of l.sites s))
    (range_with_len 0 l.number)
