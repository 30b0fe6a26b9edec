use Rattle.sgt_explain_decisions.proofs.Placing.{first-on, none-placed, none-decided}
use Rattle.sgt_names.proofs.Elements.{none-weaker, some-weaker}
use Rattle.sgt_explain_decisions.proofs.placed.number_on.Goals as goal

pub returns-clause-none : goal.returns-clause-none
returns-clause-none c = λ rising.
    let at = c.count_before.result in
    none-weaker c.number_at.result _ _
    (none-placed c.args.placed.now c.args.tx at rising (c.count_before.ensures rising)) c.number_at.ensures.none

pub returns-clause-first : goal.returns-clause-first
returns-clause-first c = λ ds placed.
    let at = c.count_before.result in
    some-weaker c.number_at.result _ _ (λ n there. first-on ds c.args.placed.now c.args.tx at n placed
    (c.count_before.ensures placed.rising) there) c.number_at.ensures.there

pub returns-clause-undecided : goal.returns-clause-undecided
returns-clause-undecided c = λ ds placed.
    let at = c.count_before.result in
    none-weaker c.number_at.result _ _ (λ first. none-decided ds c.args.placed.now c.args.tx placed
    (none-placed c.args.placed.now c.args.tx at placed.rising (c.count_before.ensures placed.rising) first))
    c.number_at.ensures.none
