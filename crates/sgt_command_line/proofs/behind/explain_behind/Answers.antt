use Rattle.std.proofs.Common.{◌≡◌, [], map, rules, string_bytes}
use Rattle.sgt_command_line.specs.Words.{TellsTx}
use Rattle.sgt_command_line.proofs.Told.{filled, mapped_some, no_explained, none_told}
use Rattle.sgt_command_line.proofs.Topics.{all_alone, rule_alone}
use Rattle.sgt_command_line.proofs.behind.explain_behind.Goals as goal

pub returns-in_err-tx_told-in-None-clause-all : goal.returns-in_err-tx_told-in-None-clause-all
returns-in_err-tx_told-in-None-clause-all c = λ choice is says.
    absurd (no_explained (map string_bytes c.args.options.now)
    (mapped_some string_bytes c.args.options.now
    (filled c.args.options.now c.is_empty.result c.is_empty.ensures c.if-is_empty.false))
    (λ told. absurd (cc (c.asks_all.ensures.1 told, c.if-asks_all.false))) c.in-None.ensures.none
    (none_told c.tx_told.result (TellsTx (map string_bytes c.args.options.now)) c.in_err-tx_told-in-None.was
    c.tx_told.ensures.all) choice is says)

pub returns-in-Some-clause-all : goal.returns-in-Some-clause-all
returns-in-Some-clause-all c = λ choice is says.
    rule_alone (map string_bytes c.args.options.now) c.in-Some.topic c.in-Some.ensures.some choice is says

pub returns-then-asks_all-clause-all : goal.returns-then-asks_all-clause-all
returns-then-asks_all-clause-all c = λ choice is says.
    all_alone (map string_bytes c.args.options.now) (c.asks_all.ensures.0 c.if-asks_all.true) choice is says
