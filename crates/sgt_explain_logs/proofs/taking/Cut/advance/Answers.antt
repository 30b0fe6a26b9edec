use Rattle.std.proofs.Common.{refl, arith}
use Rattle.sgt_explain_logs.proofs.Cuts.{cut-ends, cut-long, cut-on, open-long}
use Rattle.sgt_explain_logs.proofs.taking.Cut.advance.Goals as goal

pub lines-preserved : goal.lines-preserved
lines-preserved c =
    let cut = c.lines.self in
    let inv = c.lines.invariant in (
      cut-on cut c.args.text.now inv.0 c.in-Some.n c.in-Some.ensures.some _ (omega (arith, c.if-end-self-gt-MAX_LINE.false)) refl refl,
      omega (arith, inv.1, inv.0.begun),
    )

pub returns-clause-cut : goal.returns-clause-cut
returns-clause-cut c = cut-ends c.lines.self c.args.text.now c.lines.invariant.0 c.in_default.ensures.none _ refl refl

pub returns-clause-long : goal.returns-clause-long
returns-clause-long c long = open-long c.lines.self c.args.text.now c.lines.invariant.0 c.in_default.ensures.none long

pub returns-then-end-self-gt-MAX_LINE-clause-long : goal.returns-then-end-self-gt-MAX_LINE-clause-long
returns-then-end-self-gt-MAX_LINE-clause-long c long =
    cut-long c.lines.self c.args.text.now c.lines.invariant.0 c.in-Some.n c.in-Some.ensures.some
    (omega (arith, c.if-end-self-gt-MAX_LINE.true))
