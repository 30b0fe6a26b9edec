use Rattle.std.proofs.Common.{◌≡◌, ◌<◌, ◌⊎◌, ℕ, true, false, get_or, length, Some, Any}
use Rattle.std.specs.Prelude.{slice_get}
use Rattle.sgt_names.specs.Draft.{Touches}
use Rattle.sgt_names.specs.DraftParts.{PartView}
use Rattle.sgt_step.proofs.touched.mark_parts.Given as goal

abbrev pub invariant-loop-part : goal.invariant-loop-part
invariant-loop-part l = record {
  long : length l.flags ≡ 64;
  hit : (s : ℕ) → get_or l.flags s false ≡ true
      → (get_or l.initial.flags s false ≡ true) ⊎ Any (λ (p : PartView). Touches p.touched s) l.parts;
  kept : (s : ℕ) → get_or l.initial.flags s false ≡ true → get_or l.flags s false ≡ true;
  each : (k : ℕ) (p : PartView) → k < l.part-index → slice_get l.parts k ≡ Some p → (s : ℕ) → Touches p.touched s
      → get_or l.flags s false ≡ true;
}
