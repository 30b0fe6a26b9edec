use Rattle.std.proofs.Common.{sym, ap, ◌∙◌, arith}
use Rattle.std.proofs.lemmas.Option.{same_Some, none-some}
use Rattle.sgt_bundle.specs.declared.certificate.Certificate.{Certificate}
use Rattle.sgt_explain.proofs.SecondLine.{held-line}
use Rattle.sgt_explain.proofs.ShownSteps.{faulty}
use Rattle.sgt_explain.proofs.FoundSteps.{has-before, some-unshown, step-found}
use Rattle.sgt_explain.proofs.steps.unmet_step.Goals as goal

pub returns-in_default : goal.returns-in_default
returns-in_default c = λ first.
    let f = faulty c.args.bytes.now c.args.number first in
    let cert = f.certified in
    absurd (none-some f.c (sym c.in_default.is
    ∙ c.in_ok-certificate.ensures.only f.c (held-line _ cert.0 cert.1 f.c cert.2 f.kept.spelled cert.3)))

pub returns-in_default-unmet_in : goal.returns-in_default-unmet_in
returns-in_default-unmet_in c = λ first.
    let f = faulty c.args.bytes.now c.args.number first in
    let cert = f.certified in
    let same = same_Some c.in-Some.certificate f.c (sym c.in-Some.is
    ∙ c.in_ok-certificate.ensures.only f.c (held-line _ cert.0 cert.1 f.c cert.2 f.kept.spelled cert.3)) in
    let decisions = c.decisions-decisions.ensures ∙ ap (λ (d : Certificate). d.decisions) same in
    let before = has-before c.args.bytes.now c.text_before.result.now c.args.number f.before f.line f.has
    (omega (arith, c.ranges.number)) c.text_before.ensures in
    absurd (some-unshown c.args.bytes.now c.args.number first c.decisions-decisions.result.now c.in_ok-sought.sought
    decisions (c.in_ok-sought.ensures.lines f.before before) c.in_default-unmet_in.ensures.none)

pub returns : goal.returns
returns c = λ first.
    let f = faulty c.args.bytes.now c.args.number first in
    let cert = f.certified in
    let same = same_Some c.in-Some.certificate f.c (sym c.in-Some.is
    ∙ c.in_ok-certificate.ensures.only f.c (held-line _ cert.0 cert.1 f.c cert.2 f.kept.spelled cert.3)) in
    let decisions = c.decisions-decisions.ensures ∙ ap (λ (d : Certificate). d.decisions) same in
    let before = has-before c.args.bytes.now c.text_before.result.now c.args.number f.before f.line f.has
    (omega (arith, c.ranges.number)) c.text_before.ensures in
    step-found c.args.bytes.now c.args.number first c.decisions-decisions.result.now c.in_ok-sought.sought
    c.in-Some-unmet_in.decision c.in-Some-unmet_in.place c.step_at.result decisions
    (c.in_ok-sought.ensures.lines f.before before) c.in_ok-sought.ensures.walks c.in-Some-unmet_in.ensures.some
    c.step_at.ensures.there c.step_at.ensures.asked c.step_at.ensures.none
