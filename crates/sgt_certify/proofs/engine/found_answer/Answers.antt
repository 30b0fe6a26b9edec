use Rattle.std.specs.Prelude.{◌++◌}
use Rattle.sgt_certify.specs.Answer.{IsAnswer}
use Rattle.std.proofs.lemmas.Result.{IfOk-weaker}
use Rattle.sgt_certify.specs.Reasons.{IsDecidedAnswer}
use Rattle.sgt_certify_faults.specs.Faults.{IsFaultless}
use Rattle.std.proofs.Common.{◌≡◌, List, ℕ, Option, None, Some, refl, sym, ap, subst, ◌∙◌}
use Rattle.std.proofs.lemmas.Option.{none-some, same_Some}
use Rattle.sgt_certify_search.specs.declared.finding.Found.TheVariants.{Refused}
use Rattle.sgt_certify.proofs.engine.found_answer.Goals as goal

pub returns-in-Refused-clause-by : goal.returns-in-Refused-clause-by
returns-in-Refused-clause-by c faultless r is passes =
    let same : Refused c.in-Refused.reason ≡ Refused r = sym c.in-Refused.is ∙ is in
    let one : c.in-Refused.reason ≡ r = cc in
    c.no_answer-in-Refused.ensures.by faultless refl r (ap Some one) passes

pub returns-in-Refused-clause-decided : goal.returns-in-Refused-clause-decided
returns-in-Refused-clause-decided c faultless none =
    c.no_answer-in-Refused.ensures.decided faultless refl (λ r is passes.
    none r (c.in-Refused.is ∙ ap Refused (same_Some c.in-Refused.reason r is)) passes)

pub returns-in-Nothing-clause-decided : goal.returns-in-Nothing-clause-decided
returns-in-Nothing-clause-decided c faultless none =
    c.no_answer-in-Nothing.ensures.decided faultless refl (λ r is passes. absurd (none-some r is))

pub returns-in-Err-clause-decided : goal.returns-in-Err-clause-decided
returns-in-Err-clause-decided c faultless none =
    let same = rw c.in-Err.is at c.in_ok-text-in-Certificate.ensures.again in
    IfOk-weaker c.no_answer.result _ _
    (λ a told. subst (λ (t : List ℕ). IsDecidedAnswer t a.outcome a.text.items) same told)
    (c.no_answer.ensures.decided (subst IsFaultless (sym same) faultless) refl
    (λ r is passes. absurd (none-some r is)))

pub returns-in-Err-clause-answer : goal.returns-in-Err-clause-answer
returns-in-Err-clause-answer c =
    let same = rw c.in-Err.is at c.in_ok-text-in-Certificate.ensures.again in
    IfOk-weaker c.no_answer.result _ _ (λ a answer more goes.
    subst (λ (t : List ℕ). IsAnswer (t ++ more) a.outcome a.text.items) same (answer more goes))
    c.no_answer.ensures.answer
