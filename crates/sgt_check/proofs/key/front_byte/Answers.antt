use Rattle.std.proofs.Common.{sym, ◌∙◌, arith}
use Rattle.sgt_check.proofs.Escapes.{bare_front, no_escape_in}
use Rattle.sgt_check.proofs.key.front_byte.Goals as goal

pub returns-in_default-clause-front : goal.returns-in_default-clause-front
returns-in_default-clause-front c = no_escape_in c.args.text.now c.in_default.ensures.cases

pub returns-else-byte-eq92-clause-front : goal.returns-else-byte-eq92-clause-front
returns-else-byte-eq92-clause-front c = λ x rest is.
    bare_front x c.in-Some.byte.now c.in-Some.rest.now rest
    (λ e. absurd (omega (arith, e, c.if-byte-eq92.false)))
    (sym c.in-Some.ensures.cases.0 ∙ is)
