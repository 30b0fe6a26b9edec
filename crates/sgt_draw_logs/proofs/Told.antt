-- A drawing of bytes that were read.
use Rattle.std.proofs.Common.{◌≡◌, ℕ, List, Option, Some, None, subst}
use Rattle.sgt_names.specs.declared.outcome.Outcome.TheVariants.{Yes}
use Rattle.sgt_bundle.specs.Text.{Spells}
use Rattle.sgt_audit.specs.declared.verdict.Verdict.TheVariants as verdict
use Rattle.sgt_explain.specs.Explained.{IsVerdictOn}
use Rattle.sgt_draw.specs.Drawn.{IsDrawn}
use Rattle.sgt_draw.specs.declared.task.Wanted.{Wanted}

-- what was found of a front that its verdict is told of is so of all bytes
pub drawn-yes : (wanted : Wanted) (told : Option (List ℕ)) (front text : List ℕ) (committed refused withdrawn : ℕ)
    → IsVerdictOn told (verdict.Yes committed refused withdrawn) front → IsDrawn wanted (Some front) Yes text
    → IsDrawn wanted told Yes text
drawn-yes wanted None front text committed refused withdrawn on (b, valid, spelled, picture) = (b, valid, tt, picture)
drawn-yes wanted (Some bytes) front text committed refused withdrawn on (b, valid, spelled, picture) =
    (b, valid, subst (λ (t : List ℕ). Spells t b) on.1 spelled, picture)
