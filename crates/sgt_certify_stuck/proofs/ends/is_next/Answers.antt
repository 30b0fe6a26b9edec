use Rattle.std.proofs.Common.{refl, sym, ◌∙◌}
use Rattle.std.proofs.lemmas.Bool.{true≢false}
use Rattle.sgt_certify_stuck.proofs.ends.is_next.Goals as goal

pub returns-then-waits : goal.returns-then-waits
returns-then-waits c =
    let before = c.waits.ensures.yes c.if-waits.true in
    (λ no. absurd (true≢false (sym no)), λ next. absurd (true≢false (sym (next before.0 before.1) ∙ before.2)))

pub returns : goal.returns
returns c = (λ _. c.waits.ensures.no c.if-waits.false, λ _. refl)
