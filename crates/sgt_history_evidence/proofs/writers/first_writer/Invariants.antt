use Rattle.std.proofs.Common.{ℕ, ◌<◌}
use Rattle.sgt_history.specs.History.{closed_of}
use Rattle.sgt_history_evidence.specs.Writers.{WritesAs}
use Rattle.sgt_history_evidence.proofs.writers.first_writer.Given as goal

abbrev pub invariant-loop-line : goal.invariant-loop-line
invariant-loop-line l = (line : ℕ) → line < l.line → WritesAs l.commits (closed_of l.history) l.item l.version line → ⊥
