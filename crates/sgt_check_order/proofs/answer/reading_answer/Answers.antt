use Rattle.std.proofs.Common.{refl, sym, subst, List, [], ℕ}
use Rattle.std.proofs.lemmas.Result.{IfOk-weaker}
use Rattle.sgt_history_text.specs.Ids.{AreIds}
use Rattle.sgt_check_kept.specs.declared.setting.Setting.{Setting}
use Rattle.sgt_check_order.proofs.Renamed.{ids-are, runs, told-if}
use Rattle.sgt_check_order.proofs.answer.reading_answer.Goals as goal

pub returns-clause-answer : goal.returns-clause-answer
returns-clause-answer g c =
    let r = c.args.reading in
    let s : Setting = record {
      naming = record { ids = r.ids; items = r.items; values = r.values };
      sessions = r.session_names;
      asked = record { times = r.times; sessions = r.sessions };
    } in
    IfOk-weaker c.history_answer.result _ _ (λ a told wanted bytes is.
    let ids = ids-are wanted [] bytes r is in
    told-if wanted (g.R.Source.tells c.args.reader.now) bytes r is s refl a.outcome a.text.items
    (told is.ids (subst (λ (texts : List (List ℕ)). AreIds texts is.ids) (sym (c.in_ok-found.ensures is.ids ids)) ids)
    (runs wanted [] bytes r is)))
    c.history_answer.ensures.answer
