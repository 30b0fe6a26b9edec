use Rattle.std.proofs.Common.{◌≡◌, true, take}
use Rattle.sgt_service_locks.specs.Reads.{IsOfActive}
use Rattle.sgt_service.specs.Operations.{DoesAll}
use Rattle.sgt_service.specs.Tries.{CountsReads}
use Rattle.sgt_service.proofs.runner.Runner.apply_all.Given as goal

abbrev pub invariant-loop-op : goal.invariant-loop-op
invariant-loop-op g l = record {
  named : IsOfActive l.fn.active l.active;
  share : (l.seat.share ≡ l.fn.seat.share) × (l.seat.begun ≡ l.fn.seat.begun);
  begins : l.seat.begins ≡ l.fn.seat.begins;
  counts : CountsReads l.fn.active.draft.touched l.active.draft.touched l.fn.seat.counts.items l.seat.counts.items;
  done : DoesAll (take l.op-index l.operations) true l.fn.active.draft.touched l.active.draft.touched l.fn.reads.items
      l.reads.items;
}
