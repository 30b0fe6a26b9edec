use Rattle.std.proofs.Common.{◌≡◌, take}
use Rattle.sgt_service_settle.specs.Told.{handed_in}
use Rattle.sgt_service_settle.proofs.handed.all_handed.Given as goal

abbrev pub invariant-loop-call : goal.invariant-loop-call
invariant-loop-call l = l.handed.items ≡ handed_in (take l.call-index l.history)
