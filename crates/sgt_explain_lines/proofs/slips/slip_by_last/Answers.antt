use Rattle.std.proofs.Common.{inl, inr, refl}
use Rattle.sgt_explain_lines.proofs.Slipping.{ends-some, ends-one}
use Rattle.sgt_explain_lines.proofs.slips.slip_by_last.Goals as goal

pub returns-in-Some : goal.returns-in-Some
returns-in-Some c = λ ends. inr (inr (
  ends-some c.args.line.now c.args.last ends,
  (λ cr. c.if-last-eq13.false (ends-one c.args.line.now c.args.last 13 ends cr)),
  (λ space. c.if-last-eq32.false (ends-one c.args.line.now c.args.last 32 ends space)),
  inl c.in-Some.ensures.some,
))

pub returns-in-None : goal.returns-in-None
returns-in-None c = λ ends. inr (inr (
  ends-some c.args.line.now c.args.last ends,
  (λ cr. c.if-last-eq13.false (ends-one c.args.line.now c.args.last 13 ends cr)),
  (λ space. c.if-last-eq32.false (ends-one c.args.line.now c.args.last 32 ends space)),
  inr (refl, c.in-None.ensures.none),
))
