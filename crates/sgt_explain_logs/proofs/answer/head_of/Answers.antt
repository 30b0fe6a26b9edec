use Rattle.std.proofs.Common.{IfOk, subst, sym}
use Rattle.sgt_names.specs.declared.outcome.Outcome.TheVariants.{No}
use Rattle.sgt_explain_logs.specs.Explained.{IsHead}
use Rattle.sgt_explain_logs.proofs.answer.head_of.Goals as goal

pub returns-in-No : goal.returns-in-No
returns-in-No c =
    subst (λ o. IfOk c.head_of_no.result (λ head. IsHead o c.args.answer.now.text.items head.items)) (sym c.in-No.is)
    (subst (λ xs. IfOk c.head_of_no.result (λ head. IsHead No xs head.items)) c.as_slice.ensures.value
    c.head_of_no.ensures)
