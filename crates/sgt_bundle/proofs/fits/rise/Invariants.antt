use Rattle.std.proofs.Common.{AllPairs, drop, ◌∷◌}
use Rattle.std.specs.Prelude.{◌↔◌}
use Rattle.sgt_names.specs.Log.{names}
use Rattle.sgt_bundle.specs.Parts.{ComesBefore}
use Rattle.sgt_bundle.proofs.fits.rise.Given as goal

abbrev pub invariant-loop-holding : goal.invariant-loop-holding
invariant-loop-holding l = AllPairs ComesBefore (l.last ∷ names (drop l.holding-index l.later))
    ↔ AllPairs ComesBefore (names l.items)
