use Rattle.std.proofs.Common.{◌+◌, take}
use Rattle.sgt_service_settle.specs.private.Course.{IsCourse}
use Rattle.sgt_service_settle.specs.private.Joined.{AreUnder, AreDeedsCarried}
use Rattle.sgt_service_settle.proofs.joined.follow_all.Given as goal

abbrev pub invariant-loop-deed : goal.invariant-loop-deed
invariant-loop-deed l = record {
  under : AreUnder l.marks (l.marks.step + 1);
  course : IsCourse (take l.deed-index l.deeds) l.course;
  carried : AreDeedsCarried l.links (take l.deed-index l.deeds);
}
