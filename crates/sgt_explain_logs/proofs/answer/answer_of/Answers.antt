use Rattle.std.proofs.Common.{◌∙◌, List, ℕ, subst}
use Rattle.std.proofs.lemmas.Result.{IfOk-weaker}
use Rattle.sgt_certify.specs.Answer.{IsAnswer}
use Rattle.sgt_explain_logs.proofs.answer.answer_of.Goals as goal

pub returns-in_ok-found-in-Some-clause-answer : goal.returns-in_ok-found-in-Some-clause-answer
returns-in_ok-found-in-Some-clause-answer c bytes read = c.in_ok-found-in-Some.ensures bytes (rw c.in-Some.is at read).1

pub returns-in-None-clause-answer : goal.returns-in-None-clause-answer
returns-in-None-clause-answer c =
    IfOk-weaker c.certified.result _ _
    (λ a is bytes read. subst (λ (t : List ℕ). IsAnswer t a.outcome a.text.items)
    (c.as_slice.ensures.value ∙ rw c.in-None.is at read) is) c.certified.ensures.answer
