use Rattle.std.proofs.Common.{◌≡◌, ◌+◌, take}
use Rattle.sgt_service_settle.specs.Settled.{AreEntriesCounted}
use Rattle.sgt_service_settle.proofs.counts.counts_in.Given as goal

abbrev pub invariant-loop-place : goal.invariant-loop-place
invariant-loop-place l = record {
  counted : AreEntriesCounted l.counts (take l.place l.log.entries);
  all : l.counts.reads + l.counts.others ≡ l.place;
}
