use Rattle.std.proofs.Common.{◌≡◌, ◌↔◌, List, ℕ, sym, subst}
use Rattle.std.specs.Prelude.{IfSome, Some}
use Rattle.sgt_names.specs.declared.outcome.Outcome.{Outcome}
use Rattle.sgt_names.specs.declared.outcome.Outcome.TheVariants.{Yes}
use Rattle.sgt_names.proofs.Elements.{some-weaker}
use Rattle.sgt_certify.specs.Answer.{HasCertificate, IsAnswer}
use Rattle.sgt_certify.proofs.Decided.{told-exact}
use Rattle.sgt_explain_logs.specs.Explained.{Begins, IsFound}
use Rattle.sgt_explain_logs.specs.Taken.{AreReadOf}
use Rattle.sgt_explain_logs.proofs.Readings.{found-read}
use Rattle.sgt_explain_logs.proofs.engine.explanation_read.Goals as goal

pub explanation_of-requires : goal.explanation_of-requires
explanation_of-requires c =
    subst (λ (t : List ℕ). IsAnswer t c.in_ok-answer.answer.outcome c.in_ok-answer.answer.text.items)
    (sym c.as_slice.ensures.value) (c.in_ok-answer.ensures.answer c.args.logs.now.text.items c.requires)

pub returns-clause-answer : goal.returns-clause-answer
returns-clause-answer c told read =
    let answer = c.in_ok-answer.answer in
    let e = c.in_ok-explanation.explanation in
    let same = sym c.in_ok-explanation.ensures.outcome in (
      answer.text.items,
      subst (λ (o : Outcome). IfSome told (λ bytes. IsAnswer bytes o answer.text.items)) same
          (some-weaker told (λ bytes. AreReadOf bytes c.args.logs.now)
          (λ bytes. IsAnswer bytes answer.outcome answer.text.items) c.in_ok-answer.ensures.answer read),
      subst (λ (o : Outcome). Begins o answer.text.items e.text.items) same c.in_ok-explanation.ensures.text,
    )

pub returns-clause-exact : goal.returns-clause-exact
returns-clause-exact c bytes read =
    let answer = c.in_ok-answer.answer in
    subst (λ (o : Outcome). (o ≡ Yes) ↔ HasCertificate bytes) (sym c.in_ok-explanation.ensures.outcome)
    (told-exact (Some bytes) answer.text.items answer.outcome (c.in_ok-answer.ensures.answer bytes read))

pub returns-clause-found : goal.returns-clause-found
returns-clause-found c bytes read =
    let logs = c.args.logs.now in
    let found = c.in_ok-explanation.explanation.explained.is_found in
    found-read bytes logs.text.items logs.first c.args.asked found read
    (subst (λ (t : List ℕ). IsFound t c.args.asked found) c.as_slice.ensures.value c.in_ok-explanation.ensures.found)
