use Rattle.std.proofs.Common.{ℕ, ◌<◌}
use Rattle.sgt_history_evidence.specs.Values.{GivesIn}
use Rattle.sgt_history_evidence.proofs.values.first_place.Given as goal

abbrev pub invariant-loop-place : goal.invariant-loop-place
invariant-loop-place l = (place : ℕ) → place < l.place → GivesIn l.operations l.item l.version place → ⊥
