use Rattle.std.proofs.Common.{◌≡◌, ℕ, ◌<◌, Some}
use Rattle.std.specs.Prelude.{slice_get}
use Rattle.sgt_history_evidence.specs.Writers.{WritesUpTo}
use Rattle.sgt_history_evidence.proofs.writers.writes.Given as goal

abbrev pub invariant-loop-operation : goal.invariant-loop-operation
invariant-loop-operation l = WritesUpTo l.operations l.item l.operation-index l.version → ⊥
