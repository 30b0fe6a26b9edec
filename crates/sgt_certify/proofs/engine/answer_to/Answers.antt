use Rattle.std.proofs.Common.{Bool, List, ℕ, ◌≡◌, true, false, subst, sym}
use Rattle.std.proofs.lemmas.Result.{IfOk-weaker}
use Rattle.sgt_certify_faults.specs.Faults.{IsFaultless}
use Rattle.sgt_certify.specs.Answer.{AreAll, IsTaken, IsTakenSo}
use Rattle.sgt_certify.specs.Reasons.{IsDecidedAnswer, IsToldBy, Passes}
use Rattle.sgt_certify.specs.declared.taking.Taken.{Taken}
use Rattle.sgt_certify.specs.declared.taking.Taken.TheVariants as taken
use Rattle.sgt_certify.proofs.Made.{fault-answer, taken-answer}
use Rattle.sgt_certify.proofs.engine.answer_to.Goals as goal

pub returns-then-not-all-clause-answer : goal.returns-then-not-all-clause-answer
returns-then-not-all-clause-answer c =
    let text = c.in-Text.text.items in
    IfOk-weaker c.no_answer.result _ _ (λ a answer told from.
    taken-answer told text a.text.items false a.outcome
    (subst (IsTaken told text) c.if-not-all.true (subst (IsTakenSo told) c.in-Text.is from)) answer)
    c.no_answer.ensures.answer

pub returns-then-not-all-clause-by : goal.returns-then-not-all-clause-by
returns-then-not-all-clause-by c bytes are faultless r is passes =
    absurd (subst (λ (b : Bool). AreAll (taken.Text c.in-Text.text b) bytes) c.if-not-all.true
    (subst (λ (t : Taken). AreAll t bytes) c.in-Text.is are))

pub returns-then-not-all-clause-decided : goal.returns-then-not-all-clause-decided
returns-then-not-all-clause-decided c bytes are faultless none =
    absurd (subst (λ (b : Bool). AreAll (taken.Text c.in-Text.text b) bytes) c.if-not-all.true
    (subst (λ (t : Taken). AreAll t bytes) c.in-Text.is are))

pub returns-else-not-all-clause-answer : goal.returns-else-not-all-clause-answer
returns-else-not-all-clause-answer c =
    let text = c.in-Text.text.items in
    IfOk-weaker c.found_answer.result _ _ (λ a answer told from.
    taken-answer told text a.text.items true a.outcome
    (subst (IsTaken told text) c.if-not-all.false (subst (IsTakenSo told) c.in-Text.is from)) answer)
    c.found_answer.ensures.answer

pub returns-else-not-all-clause-by : goal.returns-else-not-all-clause-by
returns-else-not-all-clause-by c bytes are faultless r is passes =
    let same : c.in-Text.text.items ≡ bytes =
    subst (λ (b : Bool). AreAll (taken.Text c.in-Text.text b) bytes) c.if-not-all.false
    (subst (λ (t : Taken). AreAll t bytes) c.in-Text.is are) in
    IfOk-weaker c.found_answer.result _ _
    (λ a told. (told.0, subst (λ (t : List ℕ). IsToldBy t r a.text.items) same told.1))
    (c.found_answer.ensures.by (subst IsFaultless (sym same) faultless) r is
    (subst (λ (t : List ℕ). Passes t r) (sym same) passes))

pub returns-else-not-all-clause-decided : goal.returns-else-not-all-clause-decided
returns-else-not-all-clause-decided c bytes are faultless none =
    let same : c.in-Text.text.items ≡ bytes =
    subst (λ (b : Bool). AreAll (taken.Text c.in-Text.text b) bytes) c.if-not-all.false
    (subst (λ (t : Taken). AreAll t bytes) c.in-Text.is are) in
    IfOk-weaker c.found_answer.result _ _
    (λ a told. subst (λ (t : List ℕ). IsDecidedAnswer t a.outcome a.text.items) same told)
    (c.found_answer.ensures.decided (subst IsFaultless (sym same) faultless)
    (λ r is passes. none r is (subst (λ (t : List ℕ). Passes t r) same passes)))

pub returns-in_ok-fault_answer-in-Fault-clause-answer : goal.returns-in_ok-fault_answer-in-Fault-clause-answer
returns-in_ok-fault_answer-in-Fault-clause-answer c told from =
    fault-answer told _ c.in-Fault.first.line c.in-Fault.first.fault _ (subst (IsTakenSo told) c.in-Fault.is from)
    c.in_ok-fault_answer-in-Fault.ensures
