use Rattle.std.proofs.Common.{ℕ, ◌<◌}
use Rattle.sgt_history_text.specs.Table.{IsPassed}
use Rattle.sgt_history_text.proofs.table.place_of.Given as goal

abbrev pub invariant-loop-tried : goal.invariant-loop-tried
invariant-loop-tried l = (k : ℕ) → k < l.tried → IsPassed l.names l.slots l.text k
