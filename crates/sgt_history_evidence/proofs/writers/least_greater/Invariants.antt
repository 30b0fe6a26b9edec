use Rattle.sgt_history_evidence.specs.Writers.{TellsLeast}
use Rattle.sgt_history_evidence.proofs.writers.least_greater.Given as goal

abbrev pub invariant-loop-at : goal.invariant-loop-at
invariant-loop-at l = TellsLeast l.operations l.item l.version l.at l.least
