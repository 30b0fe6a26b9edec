use Rattle.std.proofs.Common.{get_or, arith, All}
use Rattle.std.proofs.lemmas.Option.{slice_get-get_or}
use Rattle.sgt_names.proofs.Lists.{All-next, All-whole}
use Rattle.sgt_explain_lines.specs.Slips.{IsDigit}
use Rattle.sgt_explain_lines.proofs.Slipping.{first-other, if-digit, if-other}
use Rattle.sgt_explain_lines.proofs.slips.first_other.Goals as goal

pub loop-byte-preserved : goal.loop-byte-preserved
loop-byte-preserved c =
    let text = c.args.text.now in
    let i = c.loop-byte.byte-index in
    let b = get_or text i 0 in
    All-next IsDigit text i b (slice_get-get_or text i 0 (omega arith))
    (if-digit b c.is_digit.result c.is_digit.ensures c.if-not-is_digit.false) c.loop-byte.invariant

pub returns-then-not-is_digit-clause-some : goal.returns-then-not-is_digit-clause-some
returns-then-not-is_digit-clause-some c =
    let text = c.args.text.now in
    let i = c.loop-byte.byte-index in
    let b = get_or text i 0 in
    first-other text i b (slice_get-get_or text i 0 (omega arith)) c.loop-byte.invariant
    (if-other b c.is_digit.result c.is_digit.ensures c.if-not-is_digit.true)

pub returns-clause-none : goal.returns-clause-none
returns-clause-none c =
    All-whole IsDigit c.args.text.now c.loop-byte.byte-index (omega (arith, c.loop-byte-test.false))
    c.loop-byte.invariant
