use Rattle.std.proofs.Common.{◌≡◌, ◌<◌, ◌⊎◌, ℕ, true, false, get_or, length, Some}
use Rattle.std.specs.Prelude.{slice_get}
use Rattle.sgt_names.specs.Draft.{Touches}
use Rattle.sgt_names.specs.declared.draft.Touch.{Touch}
use Rattle.sgt_step.proofs.touched.mark_all.Given as goal

abbrev pub invariant-loop-touch : goal.invariant-loop-touch
invariant-loop-touch l = record {
  long : length l.flags ≡ 64;
  hit : (s : ℕ) → get_or l.flags s false ≡ true → (get_or l.initial.flags s false ≡ true) ⊎ Touches l.touched s;
  kept : (s : ℕ) → get_or l.initial.flags s false ≡ true → get_or l.flags s false ≡ true;
  each : (k : ℕ) (t : Touch) → k < l.touch-index → slice_get l.touched k ≡ Some t → get_or l.flags t.site false ≡ true;
}
