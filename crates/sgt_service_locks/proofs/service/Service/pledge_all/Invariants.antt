use Rattle.std.proofs.Common.{◌≡◌, ◌≤◌}
use Rattle.std.specs.Prelude.{vec_len}
use Rattle.sgt_service_locks.proofs.service.Service.pledge_all.Given as goal

abbrev pub invariant-loop-place : goal.invariant-loop-place
invariant-loop-place g l = record {
  certifier : l.guarded.certifier ≡ l.fn.guarded.certifier;
  lost : l.guarded.lost ≡ l.fn.guarded.lost;
  given : l.pledges.given ≡ 0;
  below : l.pledges.below ≡ l.place;
  within : l.place ≤ vec_len l.self.sites;
}
