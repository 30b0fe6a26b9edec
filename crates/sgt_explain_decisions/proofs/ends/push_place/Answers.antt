use Rattle.std.proofs.Common.{refl}
use Rattle.sgt_explain_lines.proofs.Numbering.{on-ok}
use Rattle.sgt_names.proofs.Elements.{two-parts}
use Rattle.sgt_explain_decisions.proofs.ends.push_place.Goals as goal

pub returns : goal.returns
returns c = λ placed decided.
    let ds = c.args.decisions.now in
    on-ok c.push_both_beside.result _ _ (λ e. (
      _,
      record {
        number = c.in-Some.number;
        decision = c.in-Some.decision.now;
        on = c.in-Some.ensures.some;
        first = c.in-Some.ensures.first placed;
        before = c.last_before-before.result;
        behind = c.first_behind-behind.result;
        last = c.last_before-before.ensures ds placed;
        next = c.first_behind-behind.ensures ds placed;
        text = refl;
      },
      two-parts _ _ _ _ _ c.in_ok-push_wanted.ensures e,
    )) c.push_both_beside.ensures
