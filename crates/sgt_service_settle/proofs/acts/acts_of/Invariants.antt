use Rattle.std.proofs.Common.{◌≡◌, length}
use Rattle.sgt_service_settle.specs.private.Acts.{AreActs}
use Rattle.sgt_service_settle.proofs.Acting.{AreByActorTo}
use Rattle.sgt_service_settle.proofs.acts.acts_of.Given as goal

abbrev pub invariant-loop-at : goal.invariant-loop-at
invariant-loop-at l = record {
  long : length l.acts.items ≡ length l.items;
  acts : AreActs l.items l.log l.acts.items;
  sorted : AreByActorTo l.at l.acts.items;
}
