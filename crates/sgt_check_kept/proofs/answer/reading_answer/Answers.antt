use Rattle.std.proofs.lemmas.Result.{IfOk-weaker}
use Rattle.sgt_check_kept.proofs.Named.{told-answer}
use Rattle.sgt_check_kept.proofs.answer.reading_answer.Goals as goal

pub returns : goal.returns
returns c =
    IfOk-weaker c.history_answer.result _ _
    (λ a told wanted bytes is. told-answer wanted c.args.options bytes c.args.reading is a.outcome a.text.items
    told)
    c.history_answer.ensures
