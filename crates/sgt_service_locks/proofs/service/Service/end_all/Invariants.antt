use Rattle.std.proofs.Common.{◌≡◌, ◌≤◌, ◌++◌}
use Rattle.std.specs.Prelude.{vec_len}
use Rattle.sgt_workers.specs.declared.ticket.Ending.TheVariants.{Committed}
use Rattle.sgt_service_locks.specs.Counts.{AreCounted, with_others, blocks_of, below}
use Rattle.sgt_service_locks.specs.Guarded.{AwaitsInstalls, notes_below}
use Rattle.sgt_service_locks.proofs.service.Service.end_all.Given as goal

abbrev pub invariant-loop-place : goal.invariant-loop-place
invariant-loop-place g l = record {
  awaits : l.verdict ≡ Committed → AwaitsInstalls l.guarded.certifier l.active.tx l.active.draft.touched l.place;
  step : l.guarded.certifier.state.step ≡ l.fn.guarded.certifier.state.step;
  share : (l.seat.share ≡ l.fn.seat.share) × (l.seat.begun ≡ l.fn.seat.begun) × (l.seat.number ≡ l.fn.seat.number);
  begins : l.seat.begins ≡ l.fn.seat.begins;
  within : l.place ≤ vec_len l.self.sites;
  history : l.guarded.certifier.history ≡ l.fn.guarded.certifier.history ++ notes_below l.verdict l.active l.place;
  owed : (l.blocks.written ≡ l.place) × (l.blocks.below ≡ vec_len l.self.sites);
  kept : l.guarded.lost ≡ l.fn.guarded.lost;
  counts : AreCounted (λ s. with_others (below l.place (blocks_of l.verdict l.active.draft.touched) s))
      l.fn.seat.counts.items l.seat.counts.items;
}
