use Rattle.std.proofs.Common.{sym, ◌∙◌}
use Rattle.std.proofs.lemmas.Bool.{true≢false}
use Rattle.sgt_certify_stuck.proofs.StuckSets.{all-next, left-behind, none-behind}
use Rattle.sgt_certify_stuck.proofs.ends.is_behind.Goals as goal

pub returns-in-Some-clause-yes : goal.returns-in-Some-clause-yes
returns-in-Some-clause-yes c is =
    left-behind c.args.entries.now c.args.decided.now c.in-Some.place _ c.args.tx c.in-Some.ensures.some
    (c.ends_behind.ensures.0 is)

pub returns-in-Some-clause-no : goal.returns-in-Some-clause-no
returns-in-Some-clause-no c out =
    none-behind c.args.entries.now c.args.decided.now c.in-Some.place _ c.args.tx c.in-Some.ensures.some
    (λ has. absurd (true≢false (sym (c.ends_behind.ensures.1 has) ∙ out)))

pub returns-in-None-clause-no : goal.returns-in-None-clause-no
returns-in-None-clause-no c _ = all-next c.args.entries.now c.args.decided.now c.args.tx c.in-None.ensures.none
