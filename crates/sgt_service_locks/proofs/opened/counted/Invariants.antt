use Rattle.std.proofs.Common.{◌≡◌, take}
use Rattle.sgt_service_locks.specs.Together.{counts_of}
use Rattle.sgt_service_locks.proofs.opened.counted.Given as goal

abbrev pub invariant-loop-seat : goal.invariant-loop-seat
invariant-loop-seat g l = l.counts.items ≡ counts_of l.sites (take l.seat-index l.seats)
