use Rattle.std.proofs.Common.{ℕ, ◌<◌}
use Rattle.sgt_bundle.specs.Certificate.{IsCommitted}
use Rattle.sgt_service_settle.proofs.committed.above_all.Given as goal

abbrev pub invariant-loop-decision : goal.invariant-loop-decision
invariant-loop-decision l = (number tx rank : ℕ) → number < l.decision-index → IsCommitted l.decisions number tx rank
    → tx < l.above
