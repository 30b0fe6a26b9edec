use Rattle.std.proofs.Common.{ℕ, ◌<◌, ◌↔◌}
use Rattle.sgt_bundle.specs.Certificate.{IsCommitted}
use Rattle.sgt_service_settle.specs.private.Index.{IsIn}
use Rattle.sgt_service_settle.proofs.committed.note_commits.Given as goal

abbrev pub invariant-loop-number : goal.invariant-loop-number
invariant-loop-number l = (tx number : ℕ)
    → IsIn l.commits tx number ↔ ((number < l.number) × ((rank : ℕ) × IsCommitted l.decisions number tx rank))
