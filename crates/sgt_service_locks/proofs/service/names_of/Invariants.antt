use Rattle.std.proofs.Common.{◌≡◌, take}
use Rattle.sgt_names.specs.Log.{names}
use Rattle.sgt_service_locks.proofs.service.names_of.Given as goal

abbrev pub invariant-loop-held : goal.invariant-loop-held
invariant-loop-held l = l.all.items ≡ names (take l.held-index l.items)
