use Rattle.std.proofs.Common.{All, sym, subst, ◌∙◌}
use Rattle.std.proofs.lemmas.List.Elements.{All-push}
use Rattle.sgt_explain_decisions.specs.Ends.{HasEnd}
use Rattle.sgt_explain_decisions.proofs.ends.add_end.Goals as goal

pub returns-then-is_end : goal.returns-then-is_end
returns-then-is_end c = λ entries has all.
    let own = c.number.ensures in
    subst (All (HasEnd entries)) (sym c.in_ok-push.ensures.items)
    (All-push (HasEnd entries) c.args.ended.now.items c.number.result all
    (c.args.logged.now, has, (c.is_end.ensures.0 c.if-is_end.true, sym (own.is ∙ c.tx.ensures))))
