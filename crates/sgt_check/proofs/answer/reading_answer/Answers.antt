use Rattle.std.proofs.Common.{refl}
use Rattle.std.proofs.lemmas.Result.{IfOk-weaker}
use Rattle.sgt_check.specs.Answer.{neither}
use Rattle.sgt_check.specs.declared.naming.Naming.{Naming}
use Rattle.sgt_check.proofs.Named.{told-answer}
use Rattle.sgt_check.proofs.answer.reading_answer.Goals as goal

pub returns : goal.returns
returns c =
    let r = c.args.reading in
    let n : Naming = record { ids = r.ids; items = r.items; values = r.values } in
    IfOk-weaker c.history_answer.result _ _ (λ a told bytes is. told-answer neither c.args.options bytes r is n refl
    refl refl a.outcome a.text.items told) c.history_answer.ensures
