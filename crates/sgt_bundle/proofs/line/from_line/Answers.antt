use Rattle.std.proofs.Common.{sym, ◌∙◌}
use Rattle.sgt_bundle.proofs.Answered.{not_refused}
use Rattle.sgt_bundle.proofs.Reading.{certificate-one}
use Rattle.sgt_bundle.proofs.line.from_line.Goals as goal

pub returns-in-Ok-Some-clause-only : goal.returns-in-Ok-Some-clause-only
returns-in-Ok-Some-clause-only c = λ d is same.
    let found = rw c.in-Ok-Some.field-0-is at c.in-Ok-Some.ensures in
    certificate-one c.in-Ok-Some.certificate d found.0 is (sym found.1 ∙ same)

pub returns-in-Ok-Some-clause-each : goal.returns-in-Ok-Some-clause-each
returns-in-Ok-Some-clause-each c = λ e other refused.
    let found = rw c.in-Ok-Some.field-0-is at c.in-Ok-Some.ensures in
    not_refused c.args.line.now c.in-Ok-Some.certificate e found.0 found.1 other refused
