use Rattle.std.proofs.Common.{◌≡◌, ◌∷◌, ◌∙◌, ◌++◌, [], ap, codes, map, string_bytes}
use Rattle.sgt_command_line.specs.Words.{TellsTx}
use Rattle.sgt_command_line.proofs.Told.{empty, filled, mapped_empty, mapped_some, no_dot, no_dot_first, no_dot_last, none_told}
use Rattle.sgt_command_line.proofs.behind.picture_told.Goals as goal

pub returns-then-is_empty-clause-some : goal.returns-then-is_empty-clause-some
returns-then-is_empty-clause-some c =
    let first : c.in_ok-first.first.now ≡ codes "--dot" = c.is_dot.ensures.0 c.if-is_dot.true in
    let none = empty c.in_ok-first.behind.now c.is_empty.result c.is_empty.ensures c.if-is_empty.true in
    c.in_ok-first.ensures ∙ (ap (λ t. t ∷ map string_bytes c.in_ok-first.behind.now) first
    ∙ ap (λ l. codes "--dot" ∷ l) (mapped_empty string_bytes c.in_ok-first.behind.now none))

pub returns-in_err-tx_told-clause-all : goal.returns-in_err-tx_told-clause-all
returns-in_err-tx_told-clause-all c = λ tx is_dot tells.
    let first : c.in_ok-first.first.now ≡ codes "--dot" = c.is_dot.ensures.0 c.if-is_dot.true in
    absurd (no_dot_first (map string_bytes c.args.options.now) (map string_bytes c.in_ok-first.behind.now)
    (c.in_ok-first.ensures ∙ ap (λ t. t ∷ map string_bytes c.in_ok-first.behind.now) first)
    (mapped_some string_bytes c.in_ok-first.behind.now
    (filled c.in_ok-first.behind.now c.is_empty.result c.is_empty.ensures c.if-is_empty.false))
    (none_told c.tx_told.result (TellsTx (map string_bytes c.in_ok-first.behind.now)) c.in_err-tx_told.was
    c.tx_told.ensures.all) tx is_dot tells)

pub returns-in_err-tx_told-2-clause-all : goal.returns-in_err-tx_told-2-clause-all
returns-in_err-tx_told-2-clause-all c = λ tx is_dot tells.
    let last : c.in_ok-before.last.now ≡ codes "--dot" = c.is_dot-2.ensures.0 c.if-is_dot-2.true in
    absurd (no_dot_last (map string_bytes c.args.options.now) (map string_bytes c.in_ok-before.before.now)
    (map string_bytes c.in_ok-first.behind.now)
    c.in_ok-first.first.now c.in_ok-first.ensures (λ first. let yes = c.is_dot.ensures.1 first in let no =
    c.if-is_dot.false in absurd cc)
    (c.in_ok-before.ensures ∙ ap (λ t. map string_bytes c.in_ok-before.before.now ++ (t ∷ [])) last)
    (none_told c.tx_told-then-is_dot-2.result (TellsTx (map string_bytes c.in_ok-before.before.now))
    c.in_err-tx_told-2.was c.tx_told-then-is_dot-2.ensures.all)
    tx is_dot tells)

pub returns-in_err-tx_told-3-clause-all : goal.returns-in_err-tx_told-3-clause-all
returns-in_err-tx_told-3-clause-all c = λ tx is_dot tells.
    absurd (no_dot (map string_bytes c.args.options.now) (map string_bytes c.in_ok-before.before.now)
    (map string_bytes c.in_ok-first.behind.now)
    c.in_ok-first.first.now c.in_ok-before.last.now c.in_ok-first.ensures (λ first. let yes =
    c.is_dot.ensures.1 first in let no = c.if-is_dot.false in absurd cc) c.in_ok-before.ensures (λ last. let yes =
    c.is_dot-2.ensures.1 last in let no = c.if-is_dot-2.false in absurd cc)
    (none_told c.tx_told-2.result (TellsTx (map string_bytes c.args.options.now)) c.in_err-tx_told-3.was
    c.tx_told-2.ensures.all)
    tx is_dot tells)
