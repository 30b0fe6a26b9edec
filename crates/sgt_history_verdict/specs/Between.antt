-- Which conflict leads from each line to the next, where one does.
use Rattle.std.specs.Prelude.{◌≡◌, ℕ, List, length, Option, None, Some, slice_get}
use Rattle.sgt_history.specs.declared.named.Graph.TheVariants.{Whole}
use Rattle.sgt_history.specs.Transaction.{Transaction}
use Rattle.sgt_history.specs.Conflicts.{ConflictIn}
use Rattle.sgt_history_faults.specs.declared.touch.Touch.{Touch}
use Rattle.sgt_graph.specs.declared.edge.Edge.{Edge}
use Rattle.sgt_history_verdict.specs.declared.step.Step.{Step}
use Rattle.sgt_history_verdict.specs.Steps.{IsBest, IsStep, IsToldBefore, Leads, place_behind}

-- no conflict leads from the one line to the other; or this one does, and is told before all others
abbrev pub IsLeastBetween : List (Transaction ℕ ℕ) → (ranks : List ℕ) → (a b : ℕ) → Option Step → Type 0
IsLeastBetween h ranks a b None = ConflictIn h Whole a b → ⊥
IsLeastBetween h ranks a b (Some s) = IsStep h Whole s × Leads s a b × ((t : Step) → IsStep h Whole t → Leads t a b
    → IsToldBefore ranks s t)

-- so it is from each of the lines to the next, and from the last to the first
pub record AreLeastAlong (h : List (Transaction ℕ ℕ)) (ranks lines : List ℕ) (found : List (Option Step)) : Type 0 where
  pub size : length found ≡ length lines
  pub each : (place a b : ℕ) (o : Option Step) → slice_get found place ≡ Some o → slice_get lines place ≡ Some a
      → slice_get lines (place_behind place (length lines)) ≡ Some b → IsLeastBetween h ranks a b o

-- ---- of touches

pub record AreBestAlong (touches : List Touch) (pairs : List Edge) (ranks lines : List ℕ)
    (found : List (Option Step)) : Type 0 where
  pub size : length found ≡ length lines
  pub each : (place a b : ℕ) (o : Option Step) → slice_get found place ≡ Some o → slice_get lines place ≡ Some a
      → slice_get lines (place_behind place (length lines)) ≡ Some b
      → IsBest touches pairs ranks (λ s. Leads s a b) (length pairs) o
