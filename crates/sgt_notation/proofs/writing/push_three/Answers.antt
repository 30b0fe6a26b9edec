use Rattle.std.proofs.Common.{arith, append_assoc}
use Rattle.std.proofs.lemmas.Fmt.{decimal_digit, decimal_step}
use Rattle.sgt_notation.proofs.writing.push_three.Goals as goal

pub returns-then-number-lt10-clause-text : goal.returns-then-number-lt10-clause-text
returns-then-number-lt10-clause-text c =
    rw (c.push_digit.ensures.text, decimal_digit c.args.number c.if-number-lt10.true)

pub returns-clause-text : goal.returns-clause-text
returns-clause-text c =
    rw (
      c.push_digit-2.ensures.text,
      c.push_two.ensures.text,
      decimal_step c.args.number (omega (arith, c.if-number-lt10.false)) (omega (arith, c.requires.short)),
      append_assoc,
    )
