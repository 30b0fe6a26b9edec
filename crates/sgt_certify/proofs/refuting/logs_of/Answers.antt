use Rattle.std.proofs.Common.{◌≤◌, ◌∙◌, ℕ, List, sym, subst}
use Rattle.std.proofs.lemmas.Bool.{true≢false}
use Rattle.sgt_names.specs.Limits.{max_sites}
use Rattle.std.proofs.lemmas.Result.{IfOk-weaker}
use Rattle.sgt_audit.specs.Spelled.{AnswersBundle}
use Rattle.sgt_certify_logs.specs.Certifiable.{IsWithLine}
use Rattle.sgt_certify.proofs.Made.{answers-logs, answers-many, answers-none, no-logs}
use Rattle.sgt_certify.proofs.refuting.logs_of.Goals as goal

pub returns-in-Some-clause-logs : goal.returns-in-Some-clause-logs
returns-in-Some-clause-logs c =
    let made = rw c.in-Some.is at c.in_ok-found.ensures.made in
    IfOk-weaker c.read_bundle.result _ _
    (λ found answers. answers-logs c.args.text.now _ _ found made
    (subst (λ (t : List ℕ). AnswersBundle t found) c.as_slice-in-Some.ensures.value answers))
    c.read_bundle.ensures.bundle

pub returns-in-Some-clause-none : goal.returns-in-Some-clause-none
returns-in-Some-clause-none c =
    let text : List ℕ = c.args.text.now in
    let made = subst (λ (l : List ℕ). IsWithLine text l c.in-Some.made.items) (c.as_slice.ensures.value
    ∙ c.in_ok-line.ensures.text) (rw c.in-Some.is at c.in_ok-found.ensures.made) in
    IfOk-weaker c.read_bundle.result _ _
    (λ found answers. answers-none text _ c.args.sites found made
    (subst (λ (t : List ℕ). AnswersBundle t found) c.as_slice-in-Some.ensures.value answers))
    c.read_bundle.ensures.bundle

pub returns-in-None-clause-none : goal.returns-in-None-clause-none
returns-in-None-clause-none c logs spelled many =
    no-logs c.args.text.now (rw c.in-None.is at c.in_ok-found.ensures.none) logs spelled

pub returns-in-Some-clause-many : goal.returns-in-Some-clause-many
returns-in-Some-clause-many c =
    let text : List ℕ = c.args.text.now in
    let made = subst (λ (l : List ℕ). IsWithLine text l c.in-Some.made.items) (c.as_slice.ensures.value
    ∙ c.in_ok-line.ensures.text) (rw c.in-Some.is at c.in_ok-found.ensures.made) in
    IfOk-weaker c.read_bundle.result _ _
    (λ found answers. answers-many text _ c.args.sites found (c.is_count.ensures.0 c.if-not-is_count.false) made
    (subst (λ (t : List ℕ). AnswersBundle t found) c.as_slice-in-Some.ensures.value answers))
    c.read_bundle.ensures.bundle

pub returns-then-not-is_count-clause-none : goal.returns-then-not-is_count-clause-none
returns-then-not-is_count-clause-none c logs spelled many =
    let range : (1 ≤ c.args.sites) × (c.args.sites ≤ max_sites) =
    (subst (λ (n : ℕ). 1 ≤ n) many spelled.shape.some, subst (λ (n : ℕ). n ≤ max_sites) many spelled.shape.few) in
    true≢false (sym (c.is_count.ensures.1 range) ∙ c.if-not-is_count.true)
