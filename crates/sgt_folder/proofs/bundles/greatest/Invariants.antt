use Rattle.std.proofs.Common.{◌≡◌, ◌++◌, ℕ, List}
use Rattle.sgt_folder.specs.Keeping.{telling}
use Rattle.sgt_folder.specs.Name.{IsGreatest}
use Rattle.sgt_folder.proofs.bundles.greatest.Given as goal

abbrev pub invariant-names : goal.invariant-names
invariant-names g l = (names : List (List ℕ)) × IsGreatest names l.last
    × (l.asked.calls.items ≡ l.initial.asked.calls.items ++ telling names)
