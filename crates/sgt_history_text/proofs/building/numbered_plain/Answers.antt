use Rattle.sgt_history_text.proofs.PlainLines.{plain_positive, plain_numbered}
use Rattle.sgt_history_text.proofs.building.numbered_plain.Goals as goal

pub returns-clause-positive : goal.returns-clause-positive
returns-clause-positive c = plain_positive c.args.plain.now c.requires

pub returns-clause-numbered : goal.returns-clause-numbered
returns-clause-numbered c = λ js vs p means items values.
    plain_numbered c.args.plain.now p means js vs _ _ _ _
    (λ numbers. c.in_ok-number_of_text.ensures js p.item items numbers means.item_is)
    (λ numbers. c.in_ok-number_of_given.ensures vs p.value values numbers means.value_is)
