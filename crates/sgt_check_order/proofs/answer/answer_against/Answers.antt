use Rattle.std.proofs.Common.{subst}
use Rattle.std.proofs.lemmas.Result.{IfOk-weaker}
use Rattle.sgt_history_text.specs.Reading.{IsToldOf}
use Rattle.sgt_history_text.specs.declared.reading.HistoryText.{HistoryText}
use Rattle.sgt_check_order.proofs.answer.answer_against.Goals as goal

pub returns-in-Read-clause-answer : goal.returns-in-Read-clause-answer
returns-in-Read-clause-answer g c =
    IfOk-weaker c.reading_answer.result _ _ (λ a answered wanted bytes told. answered wanted bytes
    (subst (λ (t : HistoryText). IsToldOf wanted bytes t) c.in-Read.is told)) c.reading_answer.ensures.answer
