use Rattle.std.proofs.Common.{◌≡◌, ℕ, Bool, List, [], ◌++◌, refl, sym, ◌∙◌, subst}
use Rattle.std.proofs.lemmas.List.{append-nil}
use Rattle.std.proofs.lemmas.Result.{IfOk-weaker}
use Rattle.sgt_certify_faults.specs.Faults.{GoesOn, IsFirstFault}
use Rattle.sgt_certify.specs.Answer.{IsAnswer}
use Rattle.sgt_certify.specs.Reasons.{IsDecidedAnswer, IsToldBy, Passes}
use Rattle.sgt_certify.proofs.Made.{whole-answer}
use Rattle.sgt_certify.proofs.engine.no_answer.Goals as goal

pub returns-in-Some-clause-answer : goal.returns-in-Some-clause-answer
returns-in-Some-clause-answer c more goes =
    c.in_ok-fault_answer-in-Some.ensures (c.args.text.items ++ more)
    (subst (λ (t : List ℕ). IsFirstFault (t ++ more) c.in-Some.first.line c.in-Some.first.fault)
    c.as_slice-bytes.ensures.value ((rw c.in-Some.is at c.in_ok-first.ensures.found) more goes))

pub faultless_answer-requires-clause-faultless : goal.faultless_answer-requires-clause-faultless
faultless_answer-requires-clause-faultless c = (rw c.in-None.is at c.in_ok-first.ensures.none).1

pub faultless_answer-requires-clause-sound : goal.faultless_answer-requires-clause-sound
faultless_answer-requires-clause-sound c = (rw c.in-None.is at c.in_ok-first.ensures.none).2

pub returns-clause-answer : goal.returns-clause-answer
returns-clause-answer c =
    IfOk-weaker c.faultless_answer.result _ _ (λ a answer more goes.
    whole-answer c.args.text.items a.text.items a.outcome
    (subst (λ (t : List ℕ). IsAnswer t a.outcome a.text.items) c.as_slice-bytes.ensures.value answer) more
    (subst (λ all. GoesOn all more) (rw c.in-None.is at c.in_ok-first.ensures.none).0 goes))
    c.faultless_answer.ensures.answer

pub returns-in-Some-clause-by : goal.returns-in-Some-clause-by
returns-in-Some-clause-by c faultless all r is passes =
    let bytes = c.args.text.items in
    let first =
    (rw c.in-Some.is at c.in_ok-first.ensures.found) [] (subst (λ (b : Bool). GoesOn b []) (sym all) refl) in
    let here = subst (λ (t : List ℕ). IsFirstFault t c.in-Some.first.line c.in-Some.first.fault) (append-nil _
    ∙ c.as_slice-bytes.ensures.value) first in
    absurd (faultless c.in-Some.first.line c.in-Some.first.fault here.has)

pub returns-clause-by : goal.returns-clause-by
returns-clause-by c faultless all r is passes =
    let same = c.as_slice-bytes.ensures.value in
    IfOk-weaker c.faultless_answer.result _ _
    (λ a told. (told.0, subst (λ (t : List ℕ). IsToldBy t r a.text.items) same told.1))
    (c.faultless_answer.ensures.by r is (subst (λ (t : List ℕ). Passes t r) (sym same) passes))

pub returns-in-Some-clause-decided : goal.returns-in-Some-clause-decided
returns-in-Some-clause-decided c faultless all none =
    let first =
    (rw c.in-Some.is at c.in_ok-first.ensures.found) [] (subst (λ (b : Bool). GoesOn b []) (sym all) refl) in
    let here = subst (λ (t : List ℕ). IsFirstFault t c.in-Some.first.line c.in-Some.first.fault) (append-nil _
    ∙ c.as_slice-bytes.ensures.value) first in
    absurd (faultless c.in-Some.first.line c.in-Some.first.fault here.has)

pub returns-clause-decided : goal.returns-clause-decided
returns-clause-decided c faultless all none =
    let same = c.as_slice-bytes.ensures.value in
    IfOk-weaker c.faultless_answer.result _ _
    (λ a told. subst (λ (t : List ℕ). IsDecidedAnswer t a.outcome a.text.items) same told)
    (c.faultless_answer.ensures.decided
    (λ r is passes. none r is (subst (λ (t : List ℕ). Passes t r) same passes)))
