use Rattle.std.proofs.Common.{drop, ◌≡◌}
use Rattle.std.specs.Prelude.{◌↔◌}
use Rattle.sgt_names.specs.Log.{names}
use Rattle.sgt_bundle.proofs.fits.same_names.Given as goal

abbrev pub invariant-loop-i : goal.invariant-loop-i
invariant-loop-i l = (names (drop l.i l.finals) ≡ names (drop l.i l.items)) ↔ (names l.finals ≡ names l.items)
