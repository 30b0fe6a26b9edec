use Rattle.std.proofs.Common.{◌≡◌, ◌≤◌, ◌↔◌, ℕ, Bool, true}
use Rattle.std.specs.Prelude.{filter}
use Rattle.std.specs.List.{range_with_len}
use Rattle.sgt_names.specs.Draft.{Touches}
use Rattle.sgt_core_machine.proofs.FewSites.{IsGoneOver}
use Rattle.sgt_core_machine.proofs.whole.list_few.Given as goal

abbrev pub invariant-loop-touch : goal.invariant-loop-touch
invariant-loop-touch l = record {
  listed : (p : ℕ → Bool) → ((s : ℕ) → (p s ≡ true) ↔ Touches l.touched s)
      → l.sites.items ≡ filter p (range_with_len 0 l.next);
  over : IsGoneOver l.touched l.count l.next l.touch-index;
  within : l.next ≤ l.count;
}
