use Rattle.std.proofs.Common.{refl, sym, subst, arith, All}
use Rattle.sgt_names.specs.Entry.{tx_of}
use Rattle.sgt_explain_lines.proofs.Numbering.{on-ok}
use Rattle.sgt_explain_decisions.specs.Placed.{IsFirstOn}
use Rattle.sgt_explain_decisions.specs.Decided.{IsNotLater, IsFirstLater}
use Rattle.sgt_explain_decisions.proofs.Besides.{first-unique}
use Rattle.sgt_names.proofs.Elements.{three-parts}
use Rattle.sgt_explain_decisions.proofs.order.push_decision_order.Goals as goal

pub returns-in_default-decided_later : goal.returns-in_default-decided_later
returns-in_default-decided_later c = λ ds placed overtaken.
    let l = c.args.logged.now in
    let first = subst (λ t. IsFirstOn ds t c.in-Some.number) c.tx.ensures (c.in-Some.ensures.first ds placed) in
    let same = first-unique ds (tx_of l.entry) c.in-Some.number overtaken.own first overtaken.decided in
    absurd (overtaken.later (subst (λ ls. All (IsNotLater ds overtaken.own) ls) c.as_slice.ensures.value
    (subst (λ n. All (IsNotLater ds n) c.as_slice.result.now) same
    (c.in_default-decided_later.ensures.none ds placed))))

pub returns : goal.returns
returns c = λ ds placed overtaken.
    let first = subst (λ t. IsFirstOn ds t c.in-Some.number) c.tx.ensures (c.in-Some.ensures.first ds placed) in
    on-ok c.push_decided-2.result _ _ (λ e. (
      c.in-Some-decided_later.first,
      record { logged = c.args.logged.now; number = c.in-Some.number },
      record {
        same = refl;
        decided = first;
        there =
            subst (λ ls. IsFirstLater ds ls c.in-Some.number c.in-Some-decided_later.first) c.as_slice.ensures.value
            (c.in-Some-decided_later.ensures.some ds placed);
      },
      three-parts _ _ _ _ _ _ _ c.in_ok-push_decision_order_head.ensures c.in_ok-push_decided.ensures e,
    )) c.push_decided-2.ensures
