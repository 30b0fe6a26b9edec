use Rattle.std.proofs.Common.{ℕ, ◌<◌}
use Rattle.sgt_history.specs.History.{closed_of}
use Rattle.sgt_history_evidence.specs.Values.{GivesAt}
use Rattle.sgt_history_evidence.proofs.values.first_given.Given as goal

abbrev pub invariant-loop-line : goal.invariant-loop-line
invariant-loop-line l = (line : ℕ) → line < l.line → (place : ℕ)
    → GivesAt (closed_of l.history) l.item l.version line place → ⊥
