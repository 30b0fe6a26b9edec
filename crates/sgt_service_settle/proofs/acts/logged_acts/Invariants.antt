use Rattle.std.proofs.Common.{◌≡◌, length}
use Rattle.sgt_service_settle.proofs.Acting.{AreActsTo}
use Rattle.sgt_service_settle.proofs.acts.logged_acts.Given as goal

abbrev pub invariant-loop-place : goal.invariant-loop-place
invariant-loop-place l =
    record { long : length l.acts.items ≡ length l.items; acts : AreActsTo l.items l.log l.place l.acts.items }
