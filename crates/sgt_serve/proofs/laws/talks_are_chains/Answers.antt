use Rattle.std.proofs.Common.{sym, subst, All}
use Rattle.sgt_bundle.specs.Parts.{FitTogether}
use Rattle.sgt_bundle.specs.Valid.{IsValid}
use Rattle.sgt_courses.specs.Chained.{GoOn}
use Rattle.sgt_courses.proofs.Courses.{all_fit, all_go_on, all_valid}
use Rattle.sgt_serve.proofs.Chains.{talk_runs}
use Rattle.sgt_serve.proofs.laws.talks_are_chains.Goals as goal

pub returns-clause-valid : goal.returns-clause-valid
returns-clause-valid c t last is ends =
    let r = talk_runs t last is ends in
    subst (All IsValid) (sym r.3) (all_valid _ r.0 r.1 r.2)

pub returns-clause-fit : goal.returns-clause-fit
returns-clause-fit c t last sites is ends =
    let r = talk_runs t last is ends in
    subst (All FitTogether) (sym r.3) (all_fit _ r.0 r.1 sites r.2)

pub returns-clause-go_on : goal.returns-clause-go_on
returns-clause-go_on c t last is ends =
    let r = talk_runs t last is ends in
    subst GoOn (sym r.3) (all_go_on _ r.0 r.1 r.2)
