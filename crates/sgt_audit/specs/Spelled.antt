-- The bundle that bytes spell.
use Rattle.std.specs.Prelude.{ℕ, List, Option, Some, None}
use Rattle.sgt_bundle.specs.Parts.{Parts}
use Rattle.sgt_bundle.specs.Text.{Spells}

-- the bundle is what the bytes spell, or they spell none
abbrev pub AnswersBundle : List ℕ → Option Parts → Type 0
AnswersBundle bytes None = (b : Parts) → Spells bytes b → ⊥
AnswersBundle bytes (Some b) = Spells bytes b
