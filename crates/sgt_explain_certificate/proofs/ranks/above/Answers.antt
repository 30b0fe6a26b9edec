use Rattle.std.proofs.Common.{arith, sym}
use Rattle.sgt_explain_certificate.proofs.Giving.{below-last, below-none}
use Rattle.sgt_explain_certificate.proofs.ranks.above.Goals as goal

pub returns-in_default-clause-none : goal.returns-in_default-clause-none
returns-in_default-clause-none c = below-none c.args.given.now (sym c.in_default.ensures.value)

pub returns-then-last-given-clause-none : goal.returns-then-last-given-clause-none
returns-then-last-given-clause-none c =
    below-last c.args.given.now c.in-Some.last.now c.requires (sym c.in-Some.ensures.value)
    (omega (arith, c.if-last-given.true))
