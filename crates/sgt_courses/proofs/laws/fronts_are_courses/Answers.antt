use Rattle.sgt_courses.proofs.Courses.{front}
use Rattle.sgt_courses.proofs.laws.fronts_are_courses.Goals as goal

pub returns : goal.returns
returns c old new turns more bundles course = front old new turns more bundles course
