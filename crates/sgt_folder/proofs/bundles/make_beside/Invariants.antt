use Rattle.std.proofs.Common.{◌≡◌, ◌++◌, List}
use Rattle.sgt_folder.specs.Call.{Call}
use Rattle.sgt_folder.specs.Keeping.{Tries}
use Rattle.sgt_folder.proofs.bundles.make_beside.Given as goal

abbrev pub invariant-loop-at : goal.invariant-loop-at
invariant-loop-at g l = (calls : List Call) × Tries l.number l.at calls
    × (l.asked.calls.items ≡ l.initial.asked.calls.items ++ calls)
