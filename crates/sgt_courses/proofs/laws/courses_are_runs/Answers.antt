use Rattle.sgt_courses.proofs.Courses.{course_runs}
use Rattle.sgt_courses.proofs.laws.courses_are_runs.Goals as goal

pub returns : goal.returns
returns c items turns bundles d course = course_runs items turns bundles d course
