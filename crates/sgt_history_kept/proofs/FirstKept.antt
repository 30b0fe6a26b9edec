-- Labels of a history's lines.
use Rattle.std.proofs.Common.{ℕ, ◌<◌, List, arith, inl, inr, ◌⊎◌}
use Rattle.std.proofs.lemmas.Option.{slice_get_within}
use Rattle.sgt_history.specs.Transaction.{Transaction}
use Rattle.sgt_graph.specs.declared.edge.Edge.{Edge}
use Rattle.sgt_graph.specs.Graph.{Goes}
use Rattle.sgt_history_kept.specs.declared.asked.Asked.{Asked}
use Rattle.sgt_history_kept.specs.declared.labels.Labels.{Labels}
use Rattle.sgt_history_kept.specs.Decided.{IsAskedBefore, IsKeptFrom}
use Rattle.sgt_history_kept.specs.Labels.{AreLabelsOf}
use Rattle.sgt_history_kept.proofs.Deciders.{both-commit}
use Rattle.sgt_history_time.specs.Steps.{StandsBefore}

module _ (h : List (Transaction ℕ ℕ)) (lines : ℕ) (edges : List Edge) (a : Asked) (from : IsKeptFrom h lines edges a)
  where
    step-goes : (x y : ℕ) → StandsBefore h a.times.items a.sessions.items x y
        → Goes edges x y ⊎ IsAskedBefore a x y
    step-goes x y (inl c) = inl (from.conflicts.all x y c)
    step-goes x y (inr asked) = inr asked

    pub step-within : (x y : ℕ) → StandsBefore h a.times.items a.sessions.items x y → (x < lines) × (y < lines)
    step-within x y step =
        let both = both-commit h lines edges a from x y step in (
          omega (arith, slice_get_within h x both.0.0 both.0.1.0, from.size),
          omega (arith, slice_get_within h y both.1.0 both.1.1.0, from.size),
        )

    pub labels-on : (l : Labels) → AreLabelsOf (λ x y. Goes edges x y ⊎ IsAskedBefore a x y) l
        → AreLabelsOf (StandsBefore h a.times.items a.sessions.items) l
    labels-on l are = record {
      levels = λ x y step. are.levels x y (step-goes x y step);
      keys = λ x y step. are.keys x y (step-goes x y step);
    }
