use Rattle.std.proofs.Common.{◌≡◌, ◌+◌}
use Rattle.sgt_service_settle.specs.private.Joined.{AreUnder, AreNoted}
use Rattle.sgt_service_settle.proofs.course.Marks.note.Given as goal

abbrev pub invariant-loop-link : goal.invariant-loop-link
invariant-loop-link l = record {
  step : l.self.step ≡ l.fn.self.step;
  under : AreUnder l.self (l.self.step + 1);
  noted : AreNoted l.links l.deed l.self;
}
