use Rattle.std.proofs.Common.{ℕ, ◌<◌}
use Rattle.sgt_history_kept.specs.Labels.{IsLabeled}
use Rattle.sgt_history_kept.proofs.labels.are_labeled.Given as goal

abbrev pub invariant-loop-line : goal.invariant-loop-line
invariant-loop-line l = (u : ℕ) → u < l.line → IsLabeled l.node l.labels u
