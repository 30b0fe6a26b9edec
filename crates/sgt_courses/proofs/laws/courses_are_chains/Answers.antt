use Rattle.std.proofs.Common.{sym, subst, All}
use Rattle.sgt_bundle.specs.Parts.{FitTogether}
use Rattle.sgt_bundle.specs.Valid.{IsValid}
use Rattle.sgt_courses.specs.Chained.{GoOn}
use Rattle.sgt_courses.proofs.Courses.{course_runs, all_valid, all_fit, all_go_on}
use Rattle.sgt_courses.proofs.laws.courses_are_chains.Goals as goal

pub returns-clause-valid : goal.returns-clause-valid
returns-clause-valid c items turns bundles d course =
    let r = course_runs items turns bundles d course in
    subst (All IsValid) (sym r.2) (all_valid items r.0 d r.1)

pub returns-clause-fit : goal.returns-clause-fit
returns-clause-fit c items turns bundles d sites course =
    let r = course_runs items turns bundles d course in
    subst (All FitTogether) (sym r.2) (all_fit items r.0 d sites r.1)

pub returns-clause-go_on : goal.returns-clause-go_on
returns-clause-go_on c items turns bundles d course =
    let r = course_runs items turns bundles d course in
    subst GoOn (sym r.2) (all_go_on items r.0 d r.1)
