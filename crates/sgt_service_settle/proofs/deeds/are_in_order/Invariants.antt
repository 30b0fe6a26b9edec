use Rattle.std.proofs.Common.{ℕ, ◌<◌, ◌≤◌, ◌≡◌, Some, suc}
use Rattle.std.specs.Prelude.{slice_get}
use Rattle.sgt_service_settle.specs.declared.deeds.Deed.{Deed as ADeed}
use Rattle.sgt_service_settle.proofs.deeds.are_in_order.Given as goal

abbrev pub invariant-loop-i : goal.invariant-loop-i
invariant-loop-i l = (k : ℕ) (d e : ADeed) → suc k < l.i → slice_get l.deeds k ≡ Some d
    → slice_get l.deeds (suc k) ≡ Some e → d.number ≤ e.number
