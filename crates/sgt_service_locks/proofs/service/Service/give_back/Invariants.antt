use Rattle.std.proofs.Common.{◌≡◌, ◌≤◌}
use Rattle.sgt_service_locks.proofs.service.Service.give_back.Given as goal

abbrev pub invariant-loop-place : goal.invariant-loop-place
invariant-loop-place g l = record {
  given : l.pledges.given ≡ l.place;
  below : l.pledges.below ≡ l.fn.pledges.below;
  within : l.place ≤ l.pledges.below;
}
