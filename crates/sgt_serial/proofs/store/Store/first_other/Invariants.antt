use Rattle.std.proofs.Common.{All, take}
use Rattle.sgt_serial.specs.Difference.{Has}
use Rattle.sgt_serial.specs.private.Values.{store_of}
use Rattle.sgt_serial.proofs.store.Store.first_other.Given as goal

abbrev pub invariant-loop-value : goal.invariant-loop-value
invariant-loop-value l = All (Has (store_of l.self)) (take l.value-index l.values)
