use Rattle.std.proofs.Common.{◌≡◌, take}
use Rattle.std.specs.Prelude.{map}
use Rattle.sgt_names.specs.Log.{names}
use Rattle.sgt_service_locks.proofs.service.names_of_all.Given as goal

abbrev pub invariant-loop-items : goal.invariant-loop-items
invariant-loop-items l = l.all.items ≡ map names (take l.items-index l.sites)
