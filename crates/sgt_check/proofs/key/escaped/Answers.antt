use Rattle.std.proofs.Common.{◌%◌, ◌/◌, ◌∙◌, arith}
use Rattle.sgt_check.proofs.Escapes.{digits_behind, digits_byte, few_behind, high_below, low_below, none_behind, short_behind}
use Rattle.sgt_check.proofs.key.escaped.Goals as goal

pub returns-in_default-clause-front : goal.returns-in_default-clause-front
returns-in_default-clause-front c = none_behind c.args.text.now c.in_default.ensures.cases

pub returns-then-letter-ne117-clause-front : goal.returns-then-letter-ne117-clause-front
returns-then-letter-ne117-clause-front c = λ x rest is.
    let s = short_behind c.args.text.now c.in-Some.rest.now c.in-Some.letter.now c.in-Some.ensures.cases.0
    (λ e. absurd (omega (arith, e, c.if-letter-ne117.true))) x rest is in
    (c.unescaped.ensures ∙ s.0, s.1)

pub returns-in_default-split_at_checked-clause-front : goal.returns-in_default-split_at_checked-clause-front
returns-in_default-split_at_checked-clause-front c =
    few_behind c.args.text.now c.in-Some.rest.now c.in-Some.letter.now c.in-Some.ensures.cases.0
    (omega (arith, c.if-letter-ne117.false)) c.in_default-split_at_checked.ensures.cases

pub returns-clause-front : goal.returns-clause-front
returns-clause-front c = λ x rest is.
    let split = c.in-Some-split_at_checked.ensures.cases in
    let d = digits_behind c.args.text.now c.in-Some.rest.now c.in-Some-split_at_checked.digits.now c.in-Some-split_at_checked.rest.now
    c.in-Some.letter.now c.in-Some.ensures.cases.0 (omega (arith, c.if-letter-ne117.false)) split.1 split.2 x rest is in
    let high = c.digit-high.ensures (x / 16) (high_below x d.small) d.high in
    let low = c.digit-low.ensures (x % 16) (low_below x) d.low in
    (digits_byte x c.digit-high.result c.digit-low.result d.small high low, d.behind)
