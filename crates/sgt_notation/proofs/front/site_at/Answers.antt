use Rattle.std.proofs.Common.{sym, subst, decimal, arith}
use Rattle.sgt_notation.specs.Private.{Spans}
use Rattle.sgt_notation.proofs.TwoDigits.{two-digits}
use Rattle.sgt_notation.proofs.front.site_at.Goals as goal

pub returns : goal.returns
returns c = (
  c.in_ok-site.ensures.1,
  subst (λ n. Spans c.args.bytes.now c.args.from (decimal n) c.in-Some.to) (sym c.in_ok-site.ensures.0)
      (two-digits c.args.bytes.now c.args.from c.in_ok-first.behind c.in-Some.to c.in_ok-first.first c.in-Some.second
      c.in_ok-first.ensures.0 (omega (arith, c.if-first-eq0.false)) c.in-Some.ensures.0
      c.in_ok-first.ensures.1 c.in-Some.ensures.1),
)
