use Rattle.std.proofs.Common.{◌≡◌, ℕ, [], Some}
use Rattle.std.specs.Prelude.{slice_get}
use Rattle.sgt_site.specs.declared.pending.Slot.{Slot}
use Rattle.sgt_site.proofs.pending.empty_slots.Given as goal

-- none of those so far has reads
abbrev pub invariant-loop-slot : goal.invariant-loop-slot
invariant-loop-slot l = (n : ℕ) (s : Slot) → slice_get l.slots.items n ≡ Some s → s.items.items ≡ []
