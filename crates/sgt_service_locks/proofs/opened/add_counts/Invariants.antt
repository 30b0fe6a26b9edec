use Rattle.std.proofs.Common.{◌≡◌, vec_len}
use Rattle.sgt_service_locks.proofs.Adding.{AddedTo}
use Rattle.sgt_service_locks.proofs.opened.add_counts.Given as goal

abbrev pub invariant-loop-site : goal.invariant-loop-site
invariant-loop-site l = record {
  items : l.counts.items ≡ AddedTo l.initial.counts.items l.theirs l.site;
  len : vec_len l.counts ≡ vec_len l.initial.counts;
}
