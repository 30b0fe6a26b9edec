use Rattle.std.proofs.Common.{◌∷◌, ◌++◌, [], subst}
use Rattle.std.specs.Prelude.{IfSome, IfNone}
use Rattle.sgt_names.specs.Log.{Conflicts}
use Rattle.sgt_explain_lines.specs.Values.{entries_of}
use Rattle.sgt_explain_steps.specs.Told.{begins_with_read, ends_with_read}
use Rattle.sgt_explain_steps.specs.Unmet.{ShowsOwn, ShowsOther}
use Rattle.sgt_explain.specs.Steps.{IsWhole, EndsNowhere}
use Rattle.sgt_explain.proofs.Telling.{some-if}
use Rattle.sgt_explain.proofs.ShownSteps.{faulty, step-there}
use Rattle.sgt_explain.proofs.FoundSteps.{section-there, none-met, some-met}
use Rattle.sgt_explain.proofs.steps.step_there.Goals as goal

pub returns-in-Some-clause-there : goal.returns-in-Some-clause-there
returns-in-Some-clause-there c = λ before line h.
    let found = c.with_entries.result in
    let e = c.with_entries.ensures in
    let entries = c.as_slice.ensures.value in
    step-there (before ++ line ∷ []) c.args.unmet.now c.in-Some.section found
    (some-if (IsWhole (before ++ line ∷ []) c.args.unmet.now.step.label.site) c.in_ok-found.found _ c.in-Some.is
    (c.in_ok-found.ensures.some before line h))
    e.same
    (subst (λ es. IfSome found (λ u. Conflicts (entries_of es) u.step.label.kind u.step.label.item u.from u.step.to
    → ⊥)) entries e.broken)
    (subst (λ es. IfSome found (λ u. ShowsOwn es u.from (begins_with_read u.step.label.kind) u.step.label.item
    u.first)) entries e.first)
    (subst (λ es. IfSome found (λ u. ShowsOwn es u.step.to (ends_with_read u.step.label.kind) u.step.label.item
    u.second)) entries e.second)
    (subst (λ es. IfSome found (λ u. ShowsOther es u.from u.step u.other)) entries e.other)

pub returns-in-Some-clause-some : goal.returns-in-Some-clause-some
returns-in-Some-clause-some c = λ first is.
    let u = c.args.unmet.now in
    let f = faulty c.args.bytes.now c.args.number first in
    some-met c.with_entries.result _
    (subst (λ es. IfNone c.with_entries.result
    (Conflicts (entries_of es) u.step.label.kind u.step.label.item u.from u.step.to)) c.as_slice.ensures.value
    c.with_entries.ensures.met)
    (none-met c.args.bytes.now c.args.number first u is c.in-Some.section
    (some-if (IsWhole (f.before ++ f.line ∷ []) u.step.label.site) c.in_ok-found.found _ c.in-Some.is
    (c.in_ok-found.ensures.some f.before f.line f.has)))

pub returns-in-None-clause-some : goal.returns-in-None-clause-some
returns-in-None-clause-some c = λ first is.
    let f = faulty c.args.bytes.now c.args.number first in
    absurd (section-there c.args.bytes.now c.args.number first c.args.unmet.now is
    (subst (λ o. IfNone o (EndsNowhere (f.before ++ f.line ∷ []) c.args.unmet.now.step.label.site)) c.in-None.is
    (c.in_ok-found.ensures.none f.before f.line f.has)))
