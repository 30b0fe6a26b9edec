use Rattle.std.proofs.Common.{arith, inl, inr, refl}
use Rattle.sgt_explain_lines.proofs.Slipping.{ends-some}
use Rattle.sgt_explain_lines.proofs.forms.format_slip.Goals as goal

pub returns-then-has_mark : goal.returns-then-has_mark
returns-then-has_mark c = inr (
  omega (arith, c.if-line-gt-MAX_LINE.false),
  inr (
    ends-some c.args.line.now c.in-Some.last c.in-Some.ensures.some,
    inl (c.has_mark.ensures.yes c.if-has_mark.true, refl),
  ),
)
