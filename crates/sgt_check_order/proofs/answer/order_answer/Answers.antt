use Rattle.std.proofs.Common.{sym, subst}
use Rattle.std.proofs.lemmas.Result.{IfOk-weaker}
use Rattle.sgt_names.specs.declared.outcome.Outcome.{Outcome}
use Rattle.sgt_history.specs.History.{closed_of}
use Rattle.sgt_check.specs.Told.{spelled}
use Rattle.sgt_check_order.specs.Answer.{IsJudged}
use Rattle.sgt_check_order.specs.Told.{kept_of}
use Rattle.sgt_check_order.proofs.Judged.{first-judged}
use Rattle.sgt_history.proofs.Agreeing.{values_agree}
use Rattle.sgt_check_order.proofs.answer.order_answer.Goals as goal

pub returns-in-None : goal.returns-in-None
returns-in-None c =
    let h = closed_of c.args.history.now in
    let s = c.args.setting.now in
    let right = rw c.in-None.is at c.in_ok-told.ensures in
    IfOk-weaker c.served_answer.result _ _ (λ a served js bytes ordered names runs.
    subst (λ (o : Outcome). IsJudged bytes js (spelled s.naming) (kept_of s) h o a.text.items) (sym served.0)
    (record {
      order = c.args.order.now;
      names = names;
      keeps = record {
        serves = record {
          ordered = ordered;
          right = right.0;
          values =
              values_agree h c.requires c.args.order.now ordered;
        };
        in_time = right.1.0;
        in_sessions = right.1.1;
      };
      text_is = served.1;
    })) c.served_answer.ensures

pub returns-in_ok-text-in-Some : goal.returns-in_ok-text-in-Some
returns-in_ok-text-in-Some c = λ js bytes ordered names runs.
    let broken = rw c.in-Some.is at c.in_ok-told.ensures in
    first-judged bytes js c.args.setting.now (closed_of c.args.history.now) c.requires c.args.order.now ordered names
    c.in_ok-text-in-Some.text.items runs
    c.in-Some.found broken c.in_ok-text-in-Some.ensures
