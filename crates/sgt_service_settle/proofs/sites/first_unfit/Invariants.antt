use Rattle.std.proofs.Common.{ℕ, ◌<◌, ◌+◌}
use Rattle.sgt_service_settle.specs.private.Joined.{AreUnder}
use Rattle.sgt_service_settle.specs.private.Sites.{IsFitAt}
use Rattle.sgt_service_settle.proofs.sites.first_unfit.Given as goal

abbrev pub invariant-loop-k : goal.invariant-loop-k
invariant-loop-k l = record {
  under : AreUnder l.tables.marks (l.tables.marks.step + 1);
  fit : (j : ℕ) → j < l.k
      → IsFitAt l.index l.sites l.counts j;
}
